-- How stamps, and what `replace` puts, are put together.
use Rattle.std.proofs.Common.{◌≡◌, ◌++◌, ℕ, List, [], ◌∷◌, length, replicate, decimal, refl, sym, ap, ◌∙◌, arith, append_assoc}
use Rattle.std.proofs.lemmas.List.{length-replicate}
use Rattle.edit_script.specs.Texts.{IsNumberText, IsDigitsText, IsStampText, IsDataText, IsPutText}
use Rattle.edit_script.proofs.ChainLemmas.{IsChain, chain_once}
use Rattle.edit_script.proofs.OnceLemmas.{IsOnce}
use Rattle.edit_script.proofs.DataLemmas.{data_once}
use Rattle.edit_script.proofs.DigitLemmas.{digits_once}
use Rattle.edit_script.proofs.NumberLemmas.{number_once}

-- a word and the octet that ends it, before other octets
pub ended : (s word t : List ℕ) (end : ℕ) → s ≡ word ++ end ∷ [] → s ++ t ≡ word ++ end ∷ t
ended s word t end is = ap (λ (xs : List ℕ). xs ++ t) is ∙ append_assoc word (end ∷ []) t

-- ---- stamps

stamp_along : (date time : List ℕ) → date ++ 58 ∷ (time ++ 32 ∷ []) ≡ (date ++ 58 ∷ time) ++ 32 ∷ []
stamp_along date time = sym (append_assoc date (58 ∷ time) (32 ∷ []))

pub stamp_chain : IsChain (IsDigitsText 6 58) (λ date. IsDigitsText 4 32) IsStampText (λ date time. record { date = date; time = time })
stamp_chain = record {
  joins = λ date time s t first next. ((first.0, next.0), ended s date t 58 first.1 ∙ ap (λ (xs : List ℕ). date ++ 58 ∷ xs) next.1 ∙ stamp_along date time);
  splits = λ stamp text is. (stamp.date, stamp.time, stamp.date ++ 58 ∷ [], stamp.time ++ 32 ∷ [], (is.0.0, refl), (is.0.1, refl), refl, is.1 ∙ sym (ended (stamp.date ++ 58 ∷ []) stamp.date (stamp.time ++ 32 ∷ []) 58 refl ∙ stamp_along stamp.date stamp.time));
  fills = λ date s is. (48 ∷ 48 ∷ 48 ∷ 48 ∷ [], 48 ∷ 48 ∷ 48 ∷ 48 ∷ 32 ∷ [], (refl, refl));
  once = digits_once 6 58 refl;
}

pub stamp_once : IsOnce IsStampText
stamp_once = chain_once (IsDigitsText 6 58) (λ date. IsDigitsText 4 32) IsStampText (λ date time. record { date = date; time = time }) stamp_chain (λ date. digits_once 4 32 refl)

-- ---- what `replace` puts

put_along : (put s t : List ℕ) (n : ℕ) → length put ≡ n → s ≡ decimal n ++ 10 ∷ [] → t ≡ put ++ 10 ∷ [] → s ++ t ≡ decimal (length put) ++ 10 ∷ (put ++ 10 ∷ [])
put_along put s t n long first next =
    ended s (decimal n) t 10 first ∙ ap (λ (m : ℕ). decimal m ++ 10 ∷ t) (sym long) ∙ ap (λ (xs : List ℕ). decimal (length put) ++ 10 ∷ xs) next

pub put_chain : IsChain (IsNumberText 0 4194304 10) IsDataText IsPutText (λ n put. put)
put_chain = record {
  joins = λ n put s t first next. (omega (arith, first.0.1, next.0), put_along put s t n next.0 first.1 next.1);
  splits = λ put text is. (length put, put, decimal (length put) ++ 10 ∷ [], put ++ 10 ∷ [], ((omega arith, is.0), refl), (refl, refl), refl, is.1 ∙ sym (put_along put (decimal (length put) ++ 10 ∷ []) (put ++ 10 ∷ []) (length put) refl refl refl));
  fills = λ n s is. (replicate n 0, replicate n 0 ++ 10 ∷ [], (length-replicate n 0, refl));
  once = number_once 0 4194304 10 (omega arith) refl;
}

pub put_once : IsOnce IsPutText
put_once = chain_once (IsNumberText 0 4194304 10) IsDataText IsPutText (λ n put. put) put_chain data_once
