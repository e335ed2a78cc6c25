-- Members that follow one another: what is spelled is read, and what is read is spelled.
use Rattle.std.proofs.Common.{◌≡◌, ◌+◌, ◌-◌, ◌^◌, ◌<◌, ℕ, zero, suc, Bool, true, false, List, [], ◌∷◌, ◌++◌, length, Option, Some, None, Ok, refl, sym, ap, ◌∙◌, subst, cond, arith}
use Rattle.std.specs.Prelude.{decimal, slice_get}
use Rattle.std.specs.List.{flat_map, join_with_byte}
use Rattle.std.specs.Option.{option_map}
use Rattle.std.proofs.Math.Seq.{get_or-append_seam}
use Rattle.std.proofs.lemmas.List.{append_assoc, append-nil, length-append}
use Rattle.std.proofs.lemmas.Option.{slice_get-get_or, option_and_then_some}
use Rattle.dir_store.specs.Lines.{◌>>=◌, LineRead, last_of, several, found_at, lined}
use Rattle.dir_store.specs.Rules.{kept, number_in, head_with, head_in}
use Rattle.edi_octets.specs.Words.{two_in}
use Rattle.dir_store.specs.Spelling.{listed}
use Rattle.dir_store.specs.Store.{headed}
use Rattle.dir_store.proofs.LineLemmas.{bind_ok, ok-is, some-is, IsPlain, IsLine, joined-line, found-takes, lined-takes, lined-again, two-takes, two-again}
use Rattle.dir_store.proofs.NumberLemmas.{decimal-plain, number-takes, number-again}

-- the last member of a list that ends with it
pub last-pushed : {A : Type 0} (xs : List A) (x : A) → last_of (xs ++ x ∷ []) ≡ Some x
last-pushed xs x =
    let long : length (xs ++ x ∷ []) ≡ length xs + 1 = length-append xs (x ∷ []) in
    let place : length (xs ++ x ∷ []) - 1 ≡ length xs = omega (arith, long) in
    ap (slice_get (xs ++ x ∷ [])) place ∙ slice_get-get_or (xs ++ x ∷ []) (length xs) x (omega (arith, long)) ∙ ap (λ y. Some y) (get_or-append_seam xs x [] x)

-- each member is good after the one before it
abbrev pub Each : {A : Type 0} → (Option A → A → Type 0) → Option A → List A → Type 0
Each Good before [] = Unit {0}
Each Good before (x ∷ xs) = Good before x × Each Good (Some x) xs

-- good members are read as they are spelled, and what is read is good
pub record IsSpelled {A : Type 0} (member : Option A → List ℕ → LineRead A) (text : A → List ℕ) (Good : Option A → A → Type 0) : Type 0 where
  pub takes : (before : Option A) (octets : List ℕ) (x : A) (rest : List ℕ) → member before octets ≡ Ok (x, rest) → Good before x × (octets ≡ text x ++ rest)
  pub again : (before : Option A) (x : A) (rest : List ℕ) → Good before x → member before (text x ++ rest) ≡ Ok (x, rest)

module _ {A : Type 0} (member : Option A → List ℕ → LineRead A) (text : A → List ℕ) (Good : Option A → A → Type 0) (spelled : IsSpelled member text Good) where
  -- so many members were taken from the front
  pub record Takes (n : ℕ) (before : List A) (octets : List ℕ) (all : List A) (rest : List ℕ) : Type 0 where
    pub more : List A
    pub all_are : all ≡ before ++ more
    pub long : length more ≡ n
    pub parts : octets ≡ flat_map text more ++ rest
    pub good : Each Good (last_of before) more

  pub several-takes : (n : ℕ) (before : List A) (octets : List ℕ) (all : List A) (rest : List ℕ) → several n member before octets ≡ Ok (all, rest) → Takes n before octets all rest
  several-takes zero before octets all rest is = record {
    more = [];
    all_are = ap (λ (p : List A × List ℕ). p.0) (sym (ok-is (before, octets) (all, rest) is)) ∙ sym (append-nil before);
    long = refl;
    parts = ap (λ (p : List A × List ℕ). p.1) (ok-is (before, octets) (all, rest) is);
    good = tt;
  }
  several-takes (suc n) before octets all rest is =
      let read = bind_ok (member (last_of before) octets) (λ next. several n member (before ++ next.0 ∷ []) next.1) (all, rest) is in
      let x = read.0.0 in
      let one = spelled.takes (last_of before) octets x read.0.1 read.1 in
      let others = several-takes n (before ++ x ∷ []) read.0.1 all rest read.2 in
      record {
        more = x ∷ others.more;
        all_are = others.all_are ∙ append_assoc before (x ∷ []) others.more;
        long = ap suc others.long;
        parts = one.1 ∙ ap (λ (after : List ℕ). text x ++ after) others.parts ∙ sym (append_assoc (text x) (flat_map text others.more) rest);
        good = (one.0, subst (λ last. Each Good last others.more) (last-pushed before x) others.good);
      }

  pub several-again : (before more : List A) (rest : List ℕ) → Each Good (last_of before) more → several (length more) member before (flat_map text more ++ rest) ≡ Ok (before ++ more, rest)
  several-again before [] rest good = ap (λ (all : List A). Ok (all, rest)) (sym (append-nil before))
  several-again before (x ∷ more) rest good =
      let first : member (last_of before) (flat_map text (x ∷ more) ++ rest) ≡ Ok (x, flat_map text more ++ rest) =
      ap (member (last_of before)) (append_assoc (text x) (flat_map text more) rest) ∙ spelled.again (last_of before) x (flat_map text more ++ rest) good.0 in
      let others = several-again (before ++ x ∷ []) more rest (subst (λ last. Each Good last more) (sym (last-pushed before x)) good.1) in
      ap (λ read. read >>= λ next. several (length more) member (before ++ next.0 ∷ []) next.1) first ∙ others ∙ ap (λ (all : List A). Ok (all, rest)) (append_assoc before (x ∷ []) more)

-- ---- a list under a name

-- what was found is what passes the test
pub kept-takes : {A : Type 0} (test : A → Bool) (found : Option A) (x : A) → kept test found ≡ Some x → (found ≡ Some x) × (test x ≡ true)
kept-takes test None x is = absurd cc
kept-takes {A} test (Some y) x is = by (test y) refl is
  where
    by : (passes : Bool) → test y ≡ passes → cond passes (Some y) None ≡ Some x → (let found : Option A = Some y in found ≡ Some x) × (test x ≡ true)
    by true so is = (is, ap test (sym (some-is y x is)) ∙ so)
    by false so is = absurd cc

pub kept-again : {A : Type 0} (test : A → Bool) (found : Option A) (x : A) → found ≡ Some x → test x ≡ true → kept test found ≡ Some x
kept-again test found x is so = rw is (rw so refl)

head-with-takes : (a b name : List ℕ) (n : ℕ) → head_with (a, b) ≡ Some (name, n) → (a ≡ name) × (number_in b ≡ Some n)
head-with-takes a b name n is = by (number_in b) is
  where
    by : (count : Option ℕ) → option_map {U = List ℕ × ℕ} (λ m. (a, m)) count ≡ Some (name, n) → (a ≡ name) × (count ≡ Some n)
    by None is = absurd cc
    by (Some m) is =
        let same = some-is (a, m) (name, n) is in
        (ap (λ (p : List ℕ × ℕ). p.0) same, ap (λ (p : List ℕ × ℕ). Some p.1) same)

-- the head of a list is a name and a number
pub head-takes : (line name : List ℕ) (n : ℕ) → head_in line ≡ Some (name, n) → (line ≡ join_with_byte 32 (name ∷ decimal n ∷ [])) × (n < 10 ^ 19)
head-takes line name n is =
    option_and_then_some head_with (two_in line) (name, n) is (λ w words read.
    let parts = head-with-takes w.0 w.1 name n read in
    let number = number-takes w.1 n parts.1 in
    (two-takes line w.0 w.1 words ∙ ap (λ (a : List ℕ). join_with_byte 32 (a ∷ w.1 ∷ [])) parts.0 ∙ ap (λ (b : List ℕ). join_with_byte 32 (name ∷ b ∷ [])) number.0, number.1))

pub head-again : (name : List ℕ) (n : ℕ) → IsPlain name → n < 10 ^ 19 → head_in (join_with_byte 32 (name ∷ decimal n ∷ [])) ≡ Some (name, n)
head-again name n plain few =
    rw (two-again name (decimal n) plain (decimal-plain n few)) (rw (number-again n few) refl)

-- a list and what follows it, as a line and what follows that
regroup : (line below rest : List ℕ) → (line ++ 10 ∷ []) ++ below ++ rest ≡ line ++ 10 ∷ (below ++ rest)
regroup line below rest =
    append_assoc (line ++ 10 ∷ []) below rest ∙ append_assoc line (10 ∷ []) (below ++ rest)

-- a list whose head passes a test, with its good members
pub record IsListed {A : Type 0} (test : List ℕ × ℕ → Bool) (Good : Option A → A → Type 0) (name : List ℕ) (members : List A) : Type 0 where
  pub head : test (name, length members) ≡ true
  pub few : length members < 10 ^ 19
  pub good : Each Good None members

-- what a head and members make
pub record IsMade {A B : Type 0} (test : List ℕ × ℕ → Bool) (text : A → List ℕ) (Good : Option A → A → Type 0) (made : List ℕ → List A → Option B) (octets : List ℕ) (x : B) (rest : List ℕ) : Type 0 where
  pub name : List ℕ
  pub members : List A
  pub listed_so : IsListed test Good name members
  pub made_so : made name members ≡ Some x
  pub parts : octets ≡ listed name text members ++ rest

module _ {A B : Type 0} (test : List ℕ × ℕ → Bool) (member : Option A → List ℕ → LineRead A) (text : A → List ℕ) (Good : Option A → A → Type 0) (spelled : IsSpelled member text Good) (made : List ℕ → List A → Option B) where
  abbrev rule : List ℕ → Option (List ℕ × ℕ)
  rule line = kept test (head_in line)

  abbrev ends : List ℕ → List ℕ → List A × List ℕ → LineRead B
  ends octets name read = found_at octets (made name read.0) read.1

  abbrev after : List ℕ → (List ℕ × ℕ) × List ℕ → LineRead B
  after octets head = several head.0.1 member [] head.1 >>= ends octets head.0.0

  pub headed-takes : (octets : List ℕ) (x : B) (rest : List ℕ) → headed rule member made octets ≡ Ok (x, rest) → IsMade test text Good made octets x rest
  headed-takes octets x rest is =
      let one = bind_ok (lined rule octets) (after octets) (x, rest) is in
      let name = one.0.0.0 in
      let two = bind_ok (several one.0.0.1 member [] one.0.1) (ends octets name) (x, rest) one.2 in
      let members = two.0.0 in
      let found = found-takes octets (made name members) x two.0.1 rest two.2 in
      let line = lined-takes rule octets one.0.0 one.0.1 one.1 in
      let passed = kept-takes test (head_in line.0) one.0.0 line.1 in
      let head = head-takes line.0 name one.0.0.1 passed.0 in
      let all = several-takes member text Good spelled one.0.0.1 [] one.0.1 members two.0.1 two.1 in
      let same : all.more ≡ members = sym all.all_are in
      let long : one.0.0.1 ≡ length members = sym all.long ∙ ap length same in
      let words : line.0 ≡ join_with_byte 32 (name ∷ decimal (length members) ∷ []) = head.0 ∙ ap (λ (n : ℕ). join_with_byte 32 (name ∷ decimal n ∷ [])) long in
      let below : one.0.1 ≡ flat_map text members ++ rest = all.parts ∙ ap (λ (xs : List A). flat_map text xs ++ two.0.1) same ∙ ap (λ (o : List ℕ). flat_map text members ++ o) found.1 in
      record {
        name = name;
        members = members;
        listed_so = record {
          head = subst (λ (n : ℕ). test (name, n) ≡ true) long passed.1;
          few = subst (λ n. n < 10 ^ 19) long head.1;
          good = subst (λ xs. Each Good None xs) same all.good;
        };
        made_so = found.0;
        parts =
            line.2 ∙ ap (λ (l : List ℕ). l ++ 10 ∷ one.0.1) words ∙ ap (λ (o : List ℕ). join_with_byte 32 (name ∷ decimal (length members) ∷ []) ++ 10 ∷ o) below
            ∙ sym (regroup (join_with_byte 32 (name ∷ decimal (length members) ∷ [])) (flat_map text members) rest);
      }

  pub headed-again : (name : List ℕ) (members : List A) (x : B) (rest : List ℕ) → IsListed test Good name members → IsPlain name → made name members ≡ Some x
      → headed rule member made (listed name text members ++ rest) ≡ Ok (x, rest)
  headed-again name members x rest is plain makes =
      let line = join_with_byte 32 (name ∷ decimal (length members) ∷ []) in
      let octets = line ++ 10 ∷ (flat_map text members ++ rest) in
      let words : IsLine line = joined-line name (decimal (length members) ∷ []) plain (decimal-plain (length members) is.few, tt) in
      let head : lined rule octets ≡ Ok ((name, length members), flat_map text members ++ rest) =
      lined-again rule line (name, length members) (flat_map text members ++ rest) words (kept-again test (head_in line) (name, length members) (head-again name (length members) plain is.few) is.head) in
      let all : several (length members) member [] (flat_map text members ++ rest) ≡ Ok (members, rest) = several-again member text Good spelled [] members rest is.good in
      ap (headed rule member made) (regroup line (flat_map text members) rest) ∙ ap (λ read. read >>= after octets) head ∙ ap (λ read. read >>= ends octets name) all
      ∙ ap (λ (found : Option B). found_at octets found rest) makes

-- ---- kinds of members

-- a kind of one line
pub line-spelled : {A : Type 0} (rule : Option A → List ℕ → Option A) (line : A → List ℕ) (Good : Option A → A → Type 0)
    → ((before : Option A) (given : List ℕ) (x : A) → rule before given ≡ Some x → Good before x × (given ≡ line x))
    → ((before : Option A) (x : A) → Good before x → (rule before (line x) ≡ Some x) × IsLine (line x))
    → IsSpelled (λ before octets. lined (rule before) octets) (λ x. line x ++ 10 ∷ []) Good
line-spelled rule line Good takes again = record {
  takes = λ before octets x rest is.
      let read = lined-takes (rule before) octets x rest is in
      let one = takes before read.0 x read.1 in
      (one.0, read.2 ∙ ap (λ (l : List ℕ). l ++ 10 ∷ rest) one.1 ∙ sym (append_assoc (line x) (10 ∷ []) rest));
  again = λ before x rest good.
      let one = again before x good in
      ap (lined (rule before)) (append_assoc (line x) (10 ∷ []) rest) ∙ lined-again (rule before) (line x) x rest one.1 one.0;
}

-- a kind of a head and members
pub headed-spelled : {A B : Type 0} (test : Option B → List ℕ × ℕ → Bool) (member : Option A → List ℕ → LineRead A) (text : A → List ℕ) (GoodMember : Option A → A → Type 0) → IsSpelled member text GoodMember
    → (made : List ℕ → List A → Option B) (name : B → List ℕ) (members : B → List A) (Good : Option B → B → Type 0)
    → ((before : Option B) (n : List ℕ) (xs : List A) (x : B) → IsListed (test before) GoodMember n xs → made n xs ≡ Some x → Good before x × (n ≡ name x) × (xs ≡ members x))
    → ((before : Option B) (x : B) → Good before x → IsListed (test before) GoodMember (name x) (members x) × IsPlain (name x) × (made (name x) (members x) ≡ Some x))
    → IsSpelled (λ before octets. headed (λ line. kept (test before) (head_in line)) member made octets) (λ x. listed (name x) text (members x)) Good
headed-spelled test member text GoodMember spelled made name members Good takes again = record {
  takes = λ before octets x rest is.
      let read = headed-takes (test before) member text GoodMember spelled made octets x rest is in
      let one = takes before read.name read.members x read.listed_so read.made_so in
      (one.0, read.parts ∙ ap (λ (n : List ℕ). listed n text read.members ++ rest) one.1 ∙ ap (λ xs. listed (name x) text xs ++ rest) one.2);
  again = λ before x rest good.
      let one = again before x good in
      headed-again (test before) member text GoodMember spelled made (name x) (members x) x rest one.0 one.1 one.2;
}
