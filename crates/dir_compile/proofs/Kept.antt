-- Two lists that say the same at each place.
use Rattle.std.proofs.Common.{◌≡◌, ◌∙◌, ℕ, ◌<◌, List, length, map, get_or, slice_get, Some, refl, sym, ap, subst}
use Rattle.std.specs.Option.{option_map}
use Rattle.std.proofs.lemmas.List.{length-map}
use Rattle.std.proofs.lemmas.Option.{slice_get-map, slice_get_read}

module _ {A B C : Type 0} (f : A → C) (g : B → C) (xs : List A) (ys : List B) (i : ℕ) (same : map f xs ≡ map g ys) where
  -- a place in the one is a place in the other
  pub within-kept : i < length ys → i < length xs
  within-kept lt = subst (λ n. i < n) (sym (length-map ys g) ∙ ap length (sym same) ∙ length-map xs f) lt

  -- what is there in the one says what is there in the other
  pub kept-at : (x : A) → i < length xs → x ≡ get_or xs i x → option_map g (slice_get ys i) ≡ Some (f x)
  kept-at x lt here =
      sym (slice_get-map g ys i) ∙ ap (λ l. slice_get l i) (sym same) ∙ slice_get-map f xs i ∙ ap (option_map f) (slice_get_read xs (length xs) i x refl lt here)
