-- The message and the group at a place, given by its kind and by what is open before it.
use Rattle.std.proofs.Common.{◌≡◌, ℕ, ◌<◌, Bool, true, false, not, cond, List, ◌&&◌, Option, Some, None, length, refl, sym, ap, ◌∙◌}
use Rattle.std.specs.Prelude.{codes}
use Rattle.std.specs.Option.{option_map, option_map_or}
use Rattle.edi_tables.specs.Extents.{Extent, tag_in, message_extents, group_extents, message_at, message_closed_at, group_at, group_closed_at, group_opened_at}
use Rattle.edi_tables.specs.declared.tag.Tag.{Tag}
use Rattle.edi_tables.specs.Rows.{has_name}
use Rattle.envelope_check.specs.declared.head.HeadKind.{HeadKind}
use Rattle.envelope_check.specs.declared.head.HeadKind.TheVariants.{Unh, Unt, Une}
use Rattle.envelope_check.specs.Heads.{kind_of}
use Rattle.envelope_check.specs.Known.{is_ung, is_unh, is_une, ends_group}
use Rattle.envelope_check.specs.Envelope.{is_at}
use Rattle.edi_tables.proofs.Openings.{stretch, opened, AreMarks, stretch_at, stretch_closed_at, stretch_opened_at}
use Rattle.envelope_check.proofs.TagKinds.{is_unt, stops_message, stops_group, ung_by_kind, unh_by_kind, unt_by_kind, une_by_kind, message_stop_by_kind, group_stop_by_kind}

abbrev pub tag_kind : List (Option Tag) → ℕ → Option HeadKind
tag_kind tags i = kind_of (tag_in tags i)

-- a test on kinds, where the segment is a head
abbrev pub kind_passes : (HeadKind → Bool) → Option HeadKind → Bool
kind_passes p kind = option_map_or p kind false

kinds_imply : (p q : HeadKind → Bool) → ((kind : HeadKind) → p kind ≡ true → q kind ≡ true) → (kind : Option HeadKind) → kind_passes p kind ≡ true → kind_passes q kind ≡ true
kinds_imply p q each None h = h
kinds_imply p q each (Some kind) h = each kind h

implied : (f g : Option Tag → Bool) (p q : HeadKind → Bool) → ((tag : Option Tag) → f tag ≡ kind_passes p (kind_of tag)) → ((tag : Option Tag) → g tag ≡ kind_passes q (kind_of tag)) → ((kind : HeadKind) → p kind ≡ true → q kind ≡ true) → (tag : Option Tag) → f tag ≡ true → g tag ≡ true
implied f g p q f_by g_by each tag h = g_by tag ∙ kinds_imply p q each (kind_of tag) (sym (f_by tag) ∙ h)

kinds_refute : (p q : HeadKind → Bool) → ((kind : HeadKind) → p kind ≡ true → q kind ≡ false) → (kind : Option HeadKind) → kind_passes p kind ≡ true → kind_passes q kind ≡ false
kinds_refute p q each None h = refl
kinds_refute p q each (Some kind) h = each kind h

refuted_by : (f g : Option Tag → Bool) (p q : HeadKind → Bool) → ((tag : Option Tag) → f tag ≡ kind_passes p (kind_of tag)) → ((tag : Option Tag) → g tag ≡ kind_passes q (kind_of tag)) → ((kind : HeadKind) → p kind ≡ true → q kind ≡ false) → (tag : Option Tag) → f tag ≡ true → g tag ≡ false
refuted_by f g p q f_by g_by each tag h = g_by tag ∙ kinds_refute p q each (kind_of tag) (sym (f_by tag) ∙ h)

unh_no_unt : (kind : HeadKind) → is_unh kind ≡ true → is_unt kind ≡ false
unh_no_unt Unt h = sym h
unh_no_unt _ h = refl

ung_ends : (kind : HeadKind) → is_ung kind ≡ true → ends_group kind ≡ true
ung_ends Unh h = h
ung_ends Unt h = h
ung_ends _ h = refl

une_ends : (kind : HeadKind) → is_une kind ≡ true → ends_group kind ≡ true
une_ends Unh h = h
une_ends Unt h = h
une_ends _ h = refl

ung_no_une : (kind : HeadKind) → is_ung kind ≡ true → is_une kind ≡ false
ung_no_une Une h = sym h
ung_no_une _ h = refl

abbrev pub opens_message : List (Option Tag) → ℕ → Bool
opens_message tags = is_at (codes "UNH") tags

abbrev pub closes_message : List (Option Tag) → ℕ → Bool
closes_message tags = is_at (codes "UNT") tags

abbrev pub ends_message : List (Option Tag) → ℕ → Bool
ends_message tags j = stops_message (tag_in tags j)

abbrev pub opens_group : List (Option Tag) → ℕ → Bool
opens_group tags = is_at (codes "UNG") tags

abbrev pub closes_group : List (Option Tag) → ℕ → Bool
closes_group tags = is_at (codes "UNE") tags

abbrev pub ends_group_at : List (Option Tag) → ℕ → Bool
ends_group_at tags j = stops_group (tag_in tags j)

pub message_marks : (tags : List (Option Tag)) → AreMarks (opens_message tags) (closes_message tags) (ends_message tags)
message_marks tags = record {
  opening = λ k. implied (has_name (codes "UNH")) stops_message is_unh (λ _. true) unh_by_kind message_stop_by_kind (λ kind h. refl) (tag_in tags k);
  closing = λ k. implied (has_name (codes "UNT")) stops_message is_unt (λ _. true) unt_by_kind message_stop_by_kind (λ kind h. refl) (tag_in tags k);
  apart = λ k. refuted_by (has_name (codes "UNH")) (has_name (codes "UNT")) is_unh is_unt unh_by_kind unt_by_kind unh_no_unt (tag_in tags k);
}

pub group_marks : (tags : List (Option Tag)) → AreMarks (opens_group tags) (closes_group tags) (ends_group_at tags)
group_marks tags = record {
  opening = λ k. implied (has_name (codes "UNG")) stops_group is_ung ends_group ung_by_kind group_stop_by_kind ung_ends (tag_in tags k);
  closing = λ k. implied (has_name (codes "UNE")) stops_group is_une ends_group une_by_kind group_stop_by_kind une_ends (tag_in tags k);
  apart = λ k. refuted_by (has_name (codes "UNG")) (has_name (codes "UNE")) is_ung is_une ung_by_kind une_by_kind ung_no_une (tag_in tags k);
}

-- the UNH of the message, and the UNG of the group, that is open before a place
abbrev pub message_opened : List (Option Tag) → ℕ → Option ℕ
message_opened tags i = opened (opens_message tags) (ends_message tags) i

abbrev pub group_opened : List (Option Tag) → ℕ → Option ℕ
group_opened tags i = opened (opens_group tags) (ends_group_at tags) i

-- the extent of the message from a UNH on, and of the group from a UNG on
abbrev pub message_from : List (Option Tag) → ℕ → Extent
message_from tags a = stretch (closes_message tags) (ends_message tags) (length tags) a

abbrev pub group_from : List (Option Tag) → ℕ → Extent
group_from tags a = stretch (closes_group tags) (ends_group_at tags) (length tags) a

-- what holds a place, by three tests on it
abbrev pub held : Bool → Bool → Bool → ℕ → Option ℕ → Option ℕ
held opens closes stops i before = cond opens (Some i) (cond (stops && not closes) None before)

held_same : (o p c d s t : Bool) (i : ℕ) (before : Option ℕ) → o ≡ p → c ≡ d → s ≡ t → held o c s i before ≡ held p d t i before
held_same o p c d s t i before opens closes stops = rw (opens, closes, stops) refl

pub message_at_by : (tags : List (Option Tag)) (i : ℕ) → i < length tags → message_at tags i
    ≡ option_map (message_from tags) (held (kind_passes is_unh (tag_kind tags i)) (kind_passes is_unt (tag_kind tags i)) (kind_passes (λ _. true) (tag_kind tags i)) i (message_opened tags i))
unfolding message_at message_extents
message_at_by tags i within =
    stretch_at (opens_message tags) (closes_message tags) (ends_message tags) (length tags) i (message_marks tags) within
    ∙ ap (option_map (message_from tags))
    (held_same _ _ _ _ _ _ i (message_opened tags i) (unh_by_kind (tag_in tags i)) (unt_by_kind (tag_in tags i)) (message_stop_by_kind (tag_in tags i)))

pub group_at_by : (tags : List (Option Tag)) (i : ℕ) → i < length tags → group_at tags i
    ≡ option_map (group_from tags) (held (kind_passes is_ung (tag_kind tags i)) (kind_passes is_une (tag_kind tags i)) (kind_passes ends_group (tag_kind tags i)) i (group_opened tags i))
unfolding group_at group_extents
group_at_by tags i within =
    stretch_at (opens_group tags) (closes_group tags) (ends_group_at tags) (length tags) i (group_marks tags) within
    ∙ ap (option_map (group_from tags))
    (held_same _ _ _ _ _ _ i (group_opened tags i) (ung_by_kind (tag_in tags i)) (une_by_kind (tag_in tags i)) (group_stop_by_kind (tag_in tags i)))

pub message_closed_by : (tags : List (Option Tag)) (i : ℕ) → i < length tags → message_closed_at tags i
    ≡ option_map (message_from tags) (cond (kind_passes is_unt (tag_kind tags i)) (message_opened tags i) None)
unfolding message_closed_at message_extents
message_closed_by tags i within =
    stretch_closed_at (opens_message tags) (closes_message tags) (ends_message tags) (length tags) i (message_marks tags) within
    ∙ ap (λ b. option_map (message_from tags) (cond b (message_opened tags i) None)) (unt_by_kind (tag_in tags i))

pub group_closed_by : (tags : List (Option Tag)) (i : ℕ) → i < length tags → group_closed_at tags i
    ≡ option_map (group_from tags) (cond (kind_passes is_une (tag_kind tags i)) (group_opened tags i) None)
unfolding group_closed_at group_extents
group_closed_by tags i within =
    stretch_closed_at (opens_group tags) (closes_group tags) (ends_group_at tags) (length tags) i (group_marks tags) within
    ∙ ap (λ b. option_map (group_from tags) (cond b (group_opened tags i) None)) (une_by_kind (tag_in tags i))

pub group_opened_by : (tags : List (Option Tag)) (i : ℕ) → i < length tags → group_opened_at tags i
    ≡ option_map (group_from tags) (cond (kind_passes is_ung (tag_kind tags i)) (Some i) None)
unfolding group_opened_at group_extents
group_opened_by tags i within =
    stretch_opened_at (opens_group tags) (closes_group tags) (ends_group_at tags) (length tags) i within
    ∙ ap (λ b. option_map (group_from tags) (cond b (Some i) None)) (ung_by_kind (tag_in tags i))
