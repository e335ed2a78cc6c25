-- What tests on a tag tell of its kind.
use Rattle.std.proofs.Common.{◌≡◌, ℕ, Bool, true, false, List, [], ◌∷◌, Option, Some, None, refl, sym, ap, ◌∙◌, inl, inr}
use Rattle.std.specs.Prelude.{codes}
use Rattle.std.specs.Option.{option_map_or}
use Rattle.std.specs.List.{list_any}
use Rattle.std.proofs.lemmas.Bool.{cases_Bool, false≢true}
use Rattle.std.proofs.lemmas.Slice.Eq.{bytes_eq-Decides}
use Rattle.edi_tables.specs.declared.tag.Tag.{Tag}
use Rattle.edi_tables.specs.Rows.{has_name}
use Rattle.envelope_check.specs.declared.head.HeadKind.{HeadKind}
use Rattle.envelope_check.specs.declared.head.HeadKind.TheVariants.{Unb, Ung, Unh, Unt, Une, Unz}
use Rattle.envelope_check.specs.Heads.{name_of, kind_of}
use Rattle.envelope_check.specs.Known.{is_unb, is_ung, is_unh, is_unz, is_une, ends_group}

-- the tag of a kind
abbrev pub named : HeadKind → Option Tag
named kind = Some (record { octets = name_of kind })

has_name-true : (name : List ℕ) (tag : Option Tag) → has_name name tag ≡ true → tag ≡ Some (record { octets = name })
has_name-true name None h = absurd (false≢true h)
has_name-true name (Some tag) h =
    ap (λ (octets : List ℕ). let t : Option Tag = Some (record { octets = octets }) in t) ((bytes_eq-Decides tag.octets name).0 h)

-- a tag of none of the six kinds
pub record IsOther (tag : Option Tag) : Type 0 where
  pub unb : has_name (codes "UNB") tag ≡ false
  pub ung : has_name (codes "UNG") tag ≡ false
  pub unh : has_name (codes "UNH") tag ≡ false
  pub unt : has_name (codes "UNT") tag ≡ false
  pub une : has_name (codes "UNE") tag ≡ false
  pub unz : has_name (codes "UNZ") tag ≡ false

pub record IsNamed (tag : Option Tag) (kind : HeadKind) : Type 0 where
  pub is : tag ≡ named kind

pub data Sort (tag : Option Tag) : Type 0 where
  known : (kind : HeadKind) → IsNamed tag kind → Sort tag
  other : IsOther tag → Sort tag

pub sort_of : (tag : Option Tag) → Sort tag
sort_of tag = elim (cases_Bool (has_name (codes "UNB") tag)) [
  | inl it ↦ known Unb (record { is = has_name-true _ tag it })
  | inr unb ↦ elim (cases_Bool (has_name (codes "UNG") tag)) [
    | inl it ↦ known Ung (record { is = has_name-true _ tag it })
    | inr ung ↦ elim (cases_Bool (has_name (codes "UNH") tag)) [
      | inl it ↦ known Unh (record { is = has_name-true _ tag it })
      | inr unh ↦ elim (cases_Bool (has_name (codes "UNT") tag)) [
        | inl it ↦ known Unt (record { is = has_name-true _ tag it })
        | inr unt ↦ elim (cases_Bool (has_name (codes "UNE") tag)) [
          | inl it ↦ known Une (record { is = has_name-true _ tag it })
          | inr une ↦ elim (cases_Bool (has_name (codes "UNZ") tag)) [
            | inl it ↦ known Unz (record { is = has_name-true _ tag it })
            | inr unz ↦ other (record { unb = unb; ung = ung; unh = unh; unt = unt; une = une; unz = unz })
          ]
        ]
      ]
    ]
  ]
]

kind_of-named : (kind : HeadKind) → kind_of (named kind) ≡ Some kind
kind_of-named Unb = refl
kind_of-named Ung = refl
kind_of-named Unh = refl
kind_of-named Unt = refl
kind_of-named Une = refl
kind_of-named Unz = refl

kind_of-other : (tag : Option Tag) → IsOther tag → kind_of tag ≡ None
kind_of-other tag it = rw (it.unb, it.ung, it.unh, it.unt, it.une, it.unz) refl

-- a test on a tag that is one on its kind
by_sort : (f : Option Tag → Bool) (g : HeadKind → Bool) → ((kind : HeadKind) → f (named kind) ≡ g kind) → ((tag : Option Tag) → IsOther tag → f tag ≡ false) → (tag : Option Tag) → Sort tag → f tag ≡ option_map_or g (kind_of tag) false
by_sort f g named_same other_same tag (known kind it) =
    ap f it.is ∙ named_same kind ∙ ap (λ k. option_map_or g k false) (sym (kind_of-named kind)) ∙ ap (λ t. option_map_or g (kind_of t) false) (sym it.is)
by_sort f g named_same other_same tag (other it) = other_same tag it ∙ ap (λ k. option_map_or g k false) (sym (kind_of-other tag it))

by_kind : (f : Option Tag → Bool) (g : HeadKind → Bool) → ((kind : HeadKind) → f (named kind) ≡ g kind) → ((tag : Option Tag) → IsOther tag → f tag ≡ false) → (tag : Option Tag) → f tag ≡ option_map_or g (kind_of tag) false
by_kind f g named_same other_same tag = by_sort f g named_same other_same tag (sort_of tag)

abbrev pub is_unt : HeadKind → Bool
is_unt Unt = true
is_unt _ = false

unb_named : (kind : HeadKind) → has_name (codes "UNB") (named kind) ≡ is_unb kind
unb_named Unb = refl
unb_named _ = refl

ung_named : (kind : HeadKind) → has_name (codes "UNG") (named kind) ≡ is_ung kind
ung_named Ung = refl
ung_named _ = refl

unh_named : (kind : HeadKind) → has_name (codes "UNH") (named kind) ≡ is_unh kind
unh_named Unh = refl
unh_named _ = refl

unt_named : (kind : HeadKind) → has_name (codes "UNT") (named kind) ≡ is_unt kind
unt_named Unt = refl
unt_named _ = refl

une_named : (kind : HeadKind) → has_name (codes "UNE") (named kind) ≡ is_une kind
une_named Une = refl
une_named _ = refl

unz_named : (kind : HeadKind) → has_name (codes "UNZ") (named kind) ≡ is_unz kind
unz_named Unz = refl
unz_named _ = refl

pub unb_by_kind : (tag : Option Tag) → has_name (codes "UNB") tag ≡ option_map_or is_unb (kind_of tag) false
unb_by_kind = by_kind (has_name (codes "UNB")) is_unb unb_named (λ tag it. it.unb)

pub ung_by_kind : (tag : Option Tag) → has_name (codes "UNG") tag ≡ option_map_or is_ung (kind_of tag) false
ung_by_kind = by_kind (has_name (codes "UNG")) is_ung ung_named (λ tag it. it.ung)

pub unh_by_kind : (tag : Option Tag) → has_name (codes "UNH") tag ≡ option_map_or is_unh (kind_of tag) false
unh_by_kind = by_kind (has_name (codes "UNH")) is_unh unh_named (λ tag it. it.unh)

pub unt_by_kind : (tag : Option Tag) → has_name (codes "UNT") tag ≡ option_map_or is_unt (kind_of tag) false
unt_by_kind = by_kind (has_name (codes "UNT")) is_unt unt_named (λ tag it. it.unt)

pub une_by_kind : (tag : Option Tag) → has_name (codes "UNE") tag ≡ option_map_or is_une (kind_of tag) false
une_by_kind = by_kind (has_name (codes "UNE")) is_une une_named (λ tag it. it.une)

pub unz_by_kind : (tag : Option Tag) → has_name (codes "UNZ") tag ≡ option_map_or is_unz (kind_of tag) false
unz_by_kind = by_kind (has_name (codes "UNZ")) is_unz unz_named (λ tag it. it.unz)

-- a message stops at a tag of any of the six kinds
abbrev pub stops_message : Option Tag → Bool
stops_message tag =
    list_any (λ name. has_name name tag) (codes "UNT" ∷ codes "UNH" ∷ codes "UNE" ∷ codes "UNG" ∷ codes "UNZ" ∷ codes "UNB" ∷ [])

message_stop_named : (kind : HeadKind) → stops_message (named kind) ≡ true
message_stop_named Unb = refl
message_stop_named _ = refl

message_stop_other : (tag : Option Tag) → IsOther tag → stops_message tag ≡ false
message_stop_other tag it = rw (it.unt, it.unh, it.une, it.ung, it.unz, it.unb) refl

pub message_stop_by_kind : (tag : Option Tag) → stops_message tag ≡ option_map_or (λ _. true) (kind_of tag) false
message_stop_by_kind = by_kind stops_message (λ _. true) message_stop_named message_stop_other

-- a group stops at a tag of four of them
abbrev pub stops_group : Option Tag → Bool
stops_group tag = list_any (λ name. has_name name tag) (codes "UNE" ∷ codes "UNG" ∷ codes "UNZ" ∷ codes "UNB" ∷ [])

group_stop_named : (kind : HeadKind) → stops_group (named kind) ≡ ends_group kind
group_stop_named Unb = refl
group_stop_named _ = refl

group_stop_other : (tag : Option Tag) → IsOther tag → stops_group tag ≡ false
group_stop_other tag it = rw (it.une, it.ung, it.unz, it.unb) refl

pub group_stop_by_kind : (tag : Option Tag) → stops_group tag ≡ option_map_or ends_group (kind_of tag) false
group_stop_by_kind = by_kind stops_group ends_group group_stop_named group_stop_other
