-- Texts that are two texts, one after the other; what the first is tells what the second may be.
use Rattle.std.proofs.Common.{◌≡◌, ◌++◌, ℕ, List, [], ◌∷◌, Result, Ok, Err, sym, ap, ◌∙◌, subst, arith, length-append, append_assoc}
use Rattle.std.proofs.lemmas.List.{append_cancel_left}
use Rattle.edit_script.specs.declared.stop.Halt.{Halt}
use Rattle.edit_script.specs.declared.stop.Halt.TheVariants.{Bad, Cut, TooLong, Fault, Memory}
use Rattle.edit_script.specs.Beginnings.{IsPartOf, BeginsNoneOf}
use Rattle.edit_script.specs.Reading.{Supply, IsAtEnd, IsHalt, IsSomeText, Reads}
use Rattle.edit_script.proofs.OnceLemmas.{IsOnce}
use Rattle.edit_script.proofs.ReadingLemmas.{takes_then, at_end_then}

-- a text of R is one of P and then one of K; P's are once, and each of them can be followed
pub record IsChain {V X W : Type 0} (P : V → List ℕ → Type 0) (K : V → X → List ℕ → Type 0) (R : W → List ℕ → Type 0) (make : V → X → W) : Type 0 where
  pub joins : (v : V) (x : X) (s t : List ℕ) → P v s → K v x t → R (make v x) (s ++ t)
  pub splits : (w : W) (text : List ℕ) → R w text → (v : V) × (x : X) × (s : List ℕ) × (t : List ℕ) × P v s × K v x t × (w ≡ make v x) × (text ≡ s ++ t)
  pub fills : (v : V) (s : List ℕ) → P v s → (x : X) × (t : List ℕ) × K v x t
  pub once : IsOnce P

-- ---- the first text isn't whole

part_first : {V X W : Type 0} (P : V → List ℕ → Type 0) (K : V → X → List ℕ → Type 0) (R : W → List ℕ → Type 0) (make : V → X → W) → IsChain P K R make → (part : List ℕ) → IsPartOf (IsSomeText P) part → IsPartOf (IsSomeText R) part
part_first P K R make chain part is =
    let filled = chain.fills is.2.0 (part ++ is.0) is.2.1 in
    let joined = chain.joins is.2.0 filled.0 (part ++ is.0) filled.1 is.2.1 filled.2 in
    (is.0 ++ filled.1, omega (arith, length-append is.0 filled.1, is.1), (make is.2.0 filled.0, subst (λ (xs : List ℕ). R (make is.2.0 filled.0) xs) (append_assoc part is.0 filled.1) joined))

none_first : {V X W : Type 0} (P : V → List ℕ → Type 0) (K : V → X → List ℕ → Type 0) (R : W → List ℕ → Type 0) (make : V → X → W) → IsChain P K R make → (octets : List ℕ) → BeginsNoneOf (IsSomeText P) octets → BeginsNoneOf (IsSomeText R) octets
none_first P K R make chain octets none text more behind is same =
    let parts = chain.splits is.0 text is.1 in
    none parts.2 more (parts.3 ++ behind) (parts.0, parts.4) (same ∙ ap (λ (xs : List ℕ). xs ++ behind) parts.7 ∙ append_assoc parts.2 parts.3 behind)

halt_first : {V X W : Type 0} (P : V → List ℕ → Type 0) (K : V → X → List ℕ → Type 0) (R : W → List ℕ → Type 0) (make : V → X → W) → IsChain P K R make → (at_end : Type 0) (after : ℕ) (taken : List ℕ) (halt : Halt) → IsHalt (IsSomeText P) at_end after taken halt → IsHalt (IsSomeText R) at_end after taken halt
halt_first P K R make chain at_end after taken Bad is =
    (is.0, is.1, is.2, part_first P K R make chain is.0 is.3, none_first P K R make chain taken is.4)
halt_first P K R make chain at_end after taken Cut is = (part_first P K R make chain taken is.0, is.1, is.2)
halt_first P K R make chain at_end after taken TooLong is = (part_first P K R make chain taken is.0, is.1)
halt_first P K R make chain at_end after taken Fault is = (part_first P K R make chain taken is.0, is.1)
halt_first P K R make chain at_end after taken Memory is = part_first P K R make chain taken is

pub reads_first : {V X W : Type 0} (P : V → List ℕ → Type 0) (K : V → X → List ℕ → Type 0) (R : W → List ℕ → Type 0) (make : V → X → W) → IsChain P K R make → (before now : Supply) (halt : Halt) → Reads P before now (Err halt) → Reads R before now (Err halt)
reads_first P K R make chain before now halt is =
    (is.0, is.1, halt_first P K R make chain (IsAtEnd before.rest now.rest) now.allowance is.0 halt is.2)

-- ---- the first text is whole

part_next : {V X W : Type 0} (P : V → List ℕ → Type 0) (K : V → X → List ℕ → Type 0) (R : W → List ℕ → Type 0) (make : V → X → W) → IsChain P K R make → (v : V) (front part : List ℕ) → P v front → IsPartOf (IsSomeText (K v)) part → IsPartOf (IsSomeText R) (front ++ part)
part_next P K R make chain v front part is next =
    let joined = chain.joins v next.2.0 front (part ++ next.0) is next.2.1 in
    (next.0, next.1, (make v next.2.0, subst (λ (xs : List ℕ). R (make v next.2.0) xs) (sym (append_assoc front part next.0)) joined))

none_next : {V X W : Type 0} (P : V → List ℕ → Type 0) (K : V → X → List ℕ → Type 0) (R : W → List ℕ → Type 0) (make : V → X → W) → IsChain P K R make → (v : V) (front octets : List ℕ) → P v front → BeginsNoneOf (IsSomeText (K v)) octets → BeginsNoneOf (IsSomeText R) (front ++ octets)
none_next P K R make chain v front octets is none text more behind whole same =
    let parts = chain.splits whole.0 text whole.1 in
    let along : front ++ (octets ++ more) ≡ parts.2 ++ (parts.3 ++ behind) = sym (append_assoc front octets more) ∙ same ∙ ap (λ (xs : List ℕ). xs ++ behind) parts.7 ∙ append_assoc parts.2 parts.3 behind in
    let one = chain.once v parts.0 front parts.2 (octets ++ more) (parts.3 ++ behind) is parts.4 along in
    let next = subst (λ u. K u parts.1 parts.3) (sym one.0) parts.5 in
    none parts.3 more behind (parts.1, next) (append_cancel_left front (octets ++ more) (parts.3 ++ behind) (along ∙ ap (λ (xs : List ℕ). xs ++ (parts.3 ++ behind)) (sym one.1)))

halt_next : {V X W : Type 0} (P : V → List ℕ → Type 0) (K : V → X → List ℕ → Type 0) (R : W → List ℕ → Type 0) (make : V → X → W) → IsChain P K R make → (v : V) (front : List ℕ) → P v front → (at_mid at_end : Type 0) → (at_mid → at_end) → (after : ℕ) (taken : List ℕ) (halt : Halt) → IsHalt (IsSomeText (K v)) at_mid after taken halt → IsHalt (IsSomeText R) at_end after (front ++ taken) halt
halt_next P K R make chain v front text at_mid at_end ends after taken Bad is =
    (front ++ is.0, is.1, ap (λ (xs : List ℕ). front ++ xs) is.2 ∙ sym (append_assoc front is.0 (is.1 ∷ [])), part_next P K R make chain v front is.0 text is.3, none_next P K R make chain v front taken text is.4)
halt_next P K R make chain v front text at_mid at_end ends after taken Cut is = (part_next P K R make chain v front taken text is.0, is.1, ends is.2)
halt_next P K R make chain v front text at_mid at_end ends after taken TooLong is = (part_next P K R make chain v front taken text is.0, is.1)
halt_next P K R make chain v front text at_mid at_end ends after taken Fault is = (part_next P K R make chain v front taken text is.0, is.1)
halt_next P K R make chain v front text at_mid at_end ends after taken Memory is = part_next P K R make chain v front taken text is

pub reads_next_halt : {V X W : Type 0} (P : V → List ℕ → Type 0) (K : V → X → List ℕ → Type 0) (R : W → List ℕ → Type 0) (make : V → X → W) → IsChain P K R make → (before mid now : Supply) (v : V) (halt : Halt) → Reads P before mid (Ok v) → Reads (K v) mid now (Err halt) → Reads R before now (Err halt)
reads_next_halt P K R make chain before mid now v halt first next = (
  first.0 ++ next.0,
  takes_then before mid now first.0 next.0 first.1 next.1,
  halt_next P K R make chain v first.0 first.2 (IsAtEnd mid.rest now.rest) (IsAtEnd before.rest now.rest) (at_end_then before.rest mid.rest now.rest first.0 first.1.from_front) now.allowance next.0 halt next.2,
)

pub reads_next : {V X W : Type 0} (P : V → List ℕ → Type 0) (K : V → X → List ℕ → Type 0) (R : W → List ℕ → Type 0) (make : V → X → W) → IsChain P K R make → (before mid now : Supply) (v : V) (x : X) → Reads P before mid (Ok v) → Reads (K v) mid now (Ok x) → Reads R before now (Ok (make v x))
reads_next P K R make chain before mid now v x first next =
    (first.0 ++ next.0, takes_then before mid now first.0 next.0 first.1 next.1, chain.joins v x first.0 next.0 first.2 next.2)

-- where the second text has the whole's value
pub reads_rest : {V W : Type 0} (P : V → List ℕ → Type 0) (K : V → W → List ℕ → Type 0) (R : W → List ℕ → Type 0) → IsChain P K R (λ v w. w) → (before mid now : Supply) (v : V) (result : Result W Halt) → Reads P before mid (Ok v) → Reads (K v) mid now result → Reads R before now result
reads_rest P K R chain before mid now v (Ok w) first next =
    reads_next P K R (λ v w. w) chain before mid now v w first next
reads_rest P K R chain before mid now v (Err halt) first next =
    reads_next_halt P K R (λ v w. w) chain before mid now v halt first next

-- ---- texts of two kinds that are the same

part_as : {V W : Type 0} (P : V → List ℕ → Type 0) (R : W → List ℕ → Type 0) → ((v : V) (t : List ℕ) → P v t → IsSomeText R t) → (part : List ℕ) → IsPartOf (IsSomeText P) part → IsPartOf (IsSomeText R) part
part_as P R goes part is = (is.0, is.1, goes is.2.0 (part ++ is.0) is.2.1)

none_as : {V W : Type 0} (P : V → List ℕ → Type 0) (R : W → List ℕ → Type 0) → ((w : W) (t : List ℕ) → R w t → IsSomeText P t) → (octets : List ℕ) → BeginsNoneOf (IsSomeText P) octets → BeginsNoneOf (IsSomeText R) octets
none_as P R comes octets none text more behind is same = none text more behind (comes is.0 text is.1) same

halt_as : {V W : Type 0} (P : V → List ℕ → Type 0) (R : W → List ℕ → Type 0) → ((v : V) (t : List ℕ) → P v t → IsSomeText R t) → ((w : W) (t : List ℕ) → R w t → IsSomeText P t) → (at_end : Type 0) (after : ℕ) (taken : List ℕ) (halt : Halt) → IsHalt (IsSomeText P) at_end after taken halt → IsHalt (IsSomeText R) at_end after taken halt
halt_as P R goes comes at_end after taken Bad is =
    (is.0, is.1, is.2, part_as P R goes is.0 is.3, none_as P R comes taken is.4)
halt_as P R goes comes at_end after taken Cut is = (part_as P R goes taken is.0, is.1, is.2)
halt_as P R goes comes at_end after taken TooLong is = (part_as P R goes taken is.0, is.1)
halt_as P R goes comes at_end after taken Fault is = (part_as P R goes taken is.0, is.1)
halt_as P R goes comes at_end after taken Memory is = part_as P R goes taken is

pub reads_as : {V W : Type 0} (P : V → List ℕ → Type 0) (R : W → List ℕ → Type 0) → ((v : V) (t : List ℕ) → P v t → IsSomeText R t) → ((w : W) (t : List ℕ) → R w t → IsSomeText P t) → (before now : Supply) (halt : Halt) → Reads P before now (Err halt) → Reads R before now (Err halt)
reads_as P R goes comes before now halt is =
    (is.0, is.1, halt_as P R goes comes (IsAtEnd before.rest now.rest) now.allowance is.0 halt is.2)

-- ---- a chain of texts that are once is once

pub chain_once : {V X W : Type 0} (P : V → List ℕ → Type 0) (K : V → X → List ℕ → Type 0) (R : W → List ℕ → Type 0) (make : V → X → W) → IsChain P K R make → ((v : V) → IsOnce (K v)) → IsOnce R
chain_once P K R make chain next a b s t more rest first second same =
    let p = chain.splits a s first in
    let q = chain.splits b t second in
    let along : p.2 ++ (p.3 ++ more) ≡ q.2 ++ (q.3 ++ rest) = sym (append_assoc p.2 p.3 more) ∙ ap (λ (xs : List ℕ). xs ++ more) (sym p.7) ∙ same ∙ ap (λ (xs : List ℕ). xs ++ rest) q.7 ∙ append_assoc q.2 q.3 rest in
    let one = chain.once p.0 q.0 p.2 q.2 (p.3 ++ more) (q.3 ++ rest) p.4 q.4 along in
    let moved = subst (λ u. K u q.1 q.3) (sym one.0) q.5 in
    let two = next p.0 p.1 q.1 p.3 q.3 more rest p.5 moved (append_cancel_left p.2 (p.3 ++ more) (q.3 ++ rest) (along ∙ ap (λ (xs : List ℕ). xs ++ (q.3 ++ rest)) (sym one.1))) in
    (p.6 ∙ ap (λ u. make u p.1) one.0 ∙ ap (λ u. make q.0 u) two.0 ∙ sym q.6, p.7 ∙ ap (λ (xs : List ℕ). xs ++ p.3) one.1 ∙ ap (λ (xs : List ℕ). q.2 ++ xs) two.1 ∙ sym q.7)
