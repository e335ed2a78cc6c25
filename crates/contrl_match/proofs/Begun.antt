-- How an acknowledgement begins, and what a reply that begins so is: a CONTRL message that answers this interchange.
use Rattle.std.proofs.Common.{◌≡◌, ℕ, zero, suc, ◌+◌, ◌-◌, Bool, true, false, ◌&&◌, cond, Option, Some, None, List, [], ◌∷◌, ◌++◌, map, get_or, length, take, refl, sym, ap, ◌∙◌, subst, arith}
use Rattle.std.specs.Prelude.{codes, find, nat_eq, slice_get}
use Rattle.std.specs.List.{cons_option, filter_map, range_with_len}
use Rattle.std.specs.Option.{option_eq}
use Rattle.std.specs.Str.{bytes_eq}
use Rattle.std.proofs.lemmas.Slice.Eq.{bytes_eq-Decides}
use Rattle.edi_tables.specs.Extents.{Extent, extent_at, extent_to, group_extents, message_extents, next_of, tag_in}
use Rattle.edi_tables.specs.Octets.{Octets}
use Rattle.edi_tables.specs.Rows.{has_name}
use Rattle.edi_tables.specs.Tag.{is_tag_of}
use Rattle.edi_tables.specs.declared.tag.Tag.{Tag}
use Rattle.error_ledger.specs.declared.error.ErrorLine.{ErrorLine}
use Rattle.dir_compile.specs.Directory.{Directory}
use Rattle.seg_lexer.specs.Fields.{Component}
use Rattle.seg_lexer.specs.declared.context.Level.{Level}
use Rattle.contrl_segments.specs.ReadBack.{components_read}
use Rattle.contrl_segments.specs.Service.{acknowledged, rejected, syntax_identifier, uci, unb, unh, unt, unz}
use Rattle.contrl_segments.specs.Written as written
use Rattle.contrl_segments.specs.declared.stamp.Stamp.{Stamp}
use Rattle.contrl_segments.specs.declared.summary.GroupHead.{GroupHead}
use Rattle.contrl_segments.specs.declared.summary.MessageHead.{MessageHead}
use Rattle.contrl_segments.specs.declared.summary.Opening.{Opening}
use Rattle.contrl_segments.specs.declared.summary.Opening.TheVariants.{Good}
use Rattle.contrl_segments.specs.declared.summary.Party.{Party}
use Rattle.contrl_segments.specs.declared.summary.Summary.{Summary}
use Rattle.contrl_writer.specs.Contrl.{contrl_for, contrl_of, interchange_answer, lower_segments, message_of}
use Rattle.contrl_writer.specs.Levels.{first_error, interchange_errors, levelled}
use Rattle.segment_records.specs.Messages.{table_for}
use Rattle.segment_records.specs.Openers.{group_head_of, message_head_of}
use Rattle.segment_records.specs.Segments.{Segment, tags_in, value_in}
use Rattle.text_reading.specs.Summary.{group_of, groups_in, messages_in, opening_components}
use Rattle.text_reading.proofs.Back.{AllTagged, AreRead, have-tags, value-back}
use Rattle.text_reading.proofs.CleanLaws.{contrl_tabled}
use Rattle.text_reading.proofs.CleanSummary.{first_is}
use Rattle.text_reading.proofs.Each.{Each, each-append, each-take}
use Rattle.text_reading.proofs.Reports.{lower_walk, tags_of}
use Rattle.text_reading.proofs.Runs.{HaveTags}
use Rattle.text_reading.proofs.Walk.{Accepts, Go, Spot, grouped_after, spot_after}
use Rattle.text_reading.proofs.Walk.Go.{to_message, to_segment, to_element, to_group}
use Rattle.text_reading.proofs.Walk.Spot.{AtHead}
use Rattle.contrl_match.specs.Match.{is_answer, is_contrl, is_party, uci_in}
use Rattle.contrl_match.specs.Telling.{Values}

-- a tag that opens no functional group and no message
pub record IsInner (tag : Octets) : Type 0 where
  pub tagged : is_tag_of tag ≡ true
  pub no_group : bytes_eq tag (codes "UNG") ≡ false
  pub no_message : bytes_eq tag (codes "UNH") ≡ false

abbrev pub IsInnerSegment : written.Segment → Type 0
IsInnerSegment w = IsInner w.tag

inner-tag : (grouped : Bool) (spot : Spot) (tag : Octets) → Go grouped spot tag → IsInner tag
inner-tag grouped spot tag (to_message is) = subst IsInner (sym is) (record { tagged = refl; no_group = refl; no_message = refl })
inner-tag grouped spot tag (to_segment some few is) = subst IsInner (sym is) (record { tagged = refl; no_group = refl; no_message = refl })
inner-tag grouped spot tag (to_element some few is) = subst IsInner (sym is) (record { tagged = refl; no_group = refl; no_message = refl })
inner-tag grouped spot tag (to_group may is) = subst IsInner (sym is) (record { tagged = refl; no_group = refl; no_message = refl })

inner-walk : (grouped : Bool) (spot : Spot) (ws : List written.Segment) → Accepts grouped spot (tags_of ws) → Each IsInnerSegment ws
inner-walk grouped spot [] walks = tt
inner-walk grouped spot (w ∷ ws) walks =
    (inner-tag grouped spot w.tag walks.0, inner-walk (grouped_after grouped spot w.tag walks.0) (spot_after grouped spot w.tag walks.0) ws walks.1)

-- an acknowledgement begins with UNB, UNH and the UCI of the interchange that it answers
pub record IsBegun (sender recipient : Party) (reference : Octets) (ws : List written.Segment) : Type 0 where
  pub first : written.Segment
  pub action : Octets
  pub error : Option ErrorLine
  pub more : List written.Segment
  pub is : ws ≡ first ∷ unh ∷ uci sender recipient reference action error ∷ more
  pub first_tag : first.tag ≡ codes "UNB"
  pub inner : Each IsInnerSegment more

module _ (level : Level) (version : ℕ) (sender recipient : Party) (reference : Octets) (s : Summary) (stamp : Stamp) (own : Octets) where
  begun-with : (action : Octets) (error : Option ErrorLine) (rest : List written.Segment) → Each IsInnerSegment rest
      → IsBegun sender recipient reference (unb (syntax_identifier level version) sender recipient stamp own ∷ message_of (uci sender recipient reference action error ∷ rest) ++ unz own ∷ [])
  begun-with action error rest inner =
      let count : ℕ = length (uci sender recipient reference action error ∷ rest) + 2 in
      let closing : written.Segment = unt count in
      record {
        first = unb (syntax_identifier level version) sender recipient stamp own;
        action = action;
        error = error;
        more = (rest ++ closing ∷ []) ++ unz own ∷ [];
        is = refl;
        first_tag = refl;
        inner = each-append IsInnerSegment (rest ++ closing ∷ []) (unz own ∷ [])
            (each-append IsInnerSegment rest (closing ∷ []) inner (record { tagged = refl; no_group = refl; no_message = refl }, tt))
            (record { tagged = refl; no_group = refl; no_message = refl }, tt);
      }

  begun-by : (first : Option ErrorLine) (lower : List written.Segment) → Each IsInnerSegment lower
      → IsBegun sender recipient reference (unb (syntax_identifier level version) sender recipient stamp own ∷ message_of (interchange_answer (uci sender recipient reference) first lower) ++ unz own ∷ [])
  begun-by (Some e) lower inner = begun-with rejected (Some e) [] tt
  begun-by None lower inner = begun-with acknowledged None (take 99000 lower) (each-take IsInnerSegment 99000 lower inner)

  pub contrl-begins : s.opening ≡ Good level version sender recipient reference → IsBegun sender recipient reference (contrl_of s stamp own)
  unfolding contrl_of
  contrl-begins opened =
      subst (λ (o : Opening). IsBegun sender recipient reference (contrl_for o s stamp own)) (sym opened)
      (begun-by (first_error (interchange_errors (levelled s))) (lower_segments (levelled s) s.messages s.groups)
      (inner-walk false AtHead (lower_segments (levelled s) s.messages s.groups) (lower_walk (levelled s) s.messages s.groups)))

-- its tags are read as they were written
inner-tagged : (ws : List written.Segment) → Each IsInnerSegment ws → AllTagged ws
inner-tagged [] inner = tt
inner-tagged (w ∷ ws) inner = (inner.0.tagged, inner-tagged ws inner.1)

begun-tagged : (ws : List written.Segment) (sender recipient : Party) (reference : Octets) → IsBegun sender recipient reference ws → AllTagged ws
begun-tagged ws sender recipient reference begun =
    subst AllTagged (sym begun.is) (ap is_tag_of begun.first_tag, (refl, (refl, inner-tagged begun.more begun.inner)))

-- no extent is opened where no tag opens one
none-opened : (opening closing : Octets) (stops : List Octets) (tags : List (Option Tag)) (a n : ℕ) → ((j : ℕ) → has_name opening (tag_in tags (a + j)) ≡ false)
    → filter_map (extent_at opening closing stops tags) (range_with_len a n) ≡ []
none-opened opening closing stops tags a zero none = refl
none-opened opening closing stops tags a (suc n) none =
    let here : has_name opening (tag_in tags a) ≡ false = ap (λ (i : ℕ). has_name opening (tag_in tags i)) (let same : a ≡ a + 0 = omega arith in same) ∙ none 0 in
    ap (λ (b : Bool). cons_option (cond b (Some (extent_to closing tags a (next_of stops tags a))) None) (filter_map (extent_at opening closing stops tags) (range_with_len (a + 1) n))) here
    ∙ none-opened opening closing stops tags (a + 1) n (λ j. ap (λ (i : ℕ). has_name opening (tag_in tags i)) (let same : a + 1 + j ≡ a + suc j = omega arith in same) ∙ none (suc j))

-- the tags of a reply
abbrev HasNone : Octets → Segment → Type 0
HasNone name s = has_name name s.tag ≡ false

tag-none : (name : Octets) (ss : List Segment) → Each (HasNone name) ss → (j : ℕ) → has_name name (tag_in (tags_in ss) j) ≡ false
tag-none name [] none zero = refl
tag-none name [] none (suc j) = refl
tag-none name (s ∷ ss) none zero = none.0
tag-none name (s ∷ ss) none (suc j) = tag-none name ss none.1 j

inner-read : (ss : List Segment) (ws : List written.Segment) → HaveTags ss (tags_of ws) → Each IsInnerSegment ws → Each (HasNone (codes "UNG")) ss × Each (HasNone (codes "UNH")) ss
inner-read [] [] have inner = (tt, tt)
inner-read [] (w ∷ ws) have inner = absurd have
inner-read (s ∷ ss) [] have inner = absurd have
inner-read (s ∷ ss) (w ∷ ws) have inner =
    let more = inner-read ss ws have.1 inner.1 in
    ((ap (has_name (codes "UNG")) have.0 ∙ inner.0.no_group, more.0), (ap (has_name (codes "UNH")) have.0 ∙ inner.0.no_message, more.1))

-- segments that begin as such an acknowledgement is read
pub record IsBegunReply (sender recipient : Party) (reference : Octets) (ss : List Segment) : Type 0 where
  pub b : Segment
  pub h : Segment
  pub c : Segment
  pub rest : List Segment
  pub action : Octets
  pub error : Option ErrorLine
  pub is : ss ≡ b ∷ h ∷ c ∷ rest
  pub b_tag : b.tag ≡ Some (record { octets = codes "UNB" })
  pub h_tag : h.tag ≡ Some (record { octets = codes "UNH" })
  pub c_tag : c.tag ≡ Some (record { octets = codes "UCI" })
  pub h_read : h.components ≡ components_read unh
  pub c_read : c.components ≡ components_read (uci sender recipient reference action error)
  pub no_group : Each (HasNone (codes "UNG")) rest
  pub no_message : Each (HasNone (codes "UNH")) rest

reply-by : (sender recipient : Party) (reference : Octets) (first : written.Segment) (action : Octets) (error : Option ErrorLine) (more : List written.Segment) (ss : List Segment)
    → first.tag ≡ codes "UNB" → Each IsInnerSegment more → AreRead ss (first ∷ unh ∷ uci sender recipient reference action error ∷ more)
    → HaveTags ss (tags_of (first ∷ unh ∷ uci sender recipient reference action error ∷ more)) → IsBegunReply sender recipient reference ss
reply-by sender recipient reference first action error more [] first_tag inner read have = absurd read
reply-by sender recipient reference first action error more (b ∷ []) first_tag inner read have = absurd read.1
reply-by sender recipient reference first action error more (b ∷ h ∷ []) first_tag inner read have = absurd read.1.1
reply-by sender recipient reference first action error more (b ∷ h ∷ c ∷ rest) first_tag inner read have =
    let none = inner-read rest more have.1.1.1 inner in
    record {
      b = b;
      h = h;
      c = c;
      rest = rest;
      action = action;
      error = error;
      is = refl;
      b_tag = have.0 ∙ ap (λ (o : Octets). let t : Option Tag = Some (record { octets = o }) in t) first_tag;
      h_tag = have.1.0;
      c_tag = have.1.1.0;
      h_read = read.1.0.0;
      c_read = read.1.1.0.0;
      no_group = none.0;
      no_message = none.1;
    }

module _ (sender recipient : Party) (reference : Octets) (ss : List Segment) (ws : List written.Segment) (begun : IsBegun sender recipient reference ws) (read : AreRead ss ws) where
  -- the tags of its segments are those that were written
  pub begun-tags : HaveTags ss (tags_of ws)
  begun-tags = have-tags ss ws read (begun-tagged ws sender recipient reference begun)

  pub begun-reply : IsBegunReply sender recipient reference ss
  begun-reply =
      reply-by sender recipient reference begun.first begun.action begun.error begun.more ss begun.first_tag begun.inner
      (subst (AreRead ss) begun.is read) (subst (λ (xs : List written.Segment). HaveTags ss (tags_of xs)) begun.is begun-tags)

both : (a b : Bool) → a ≡ true → b ≡ true → (a && b) ≡ true
both a b one two = ap (λ (x : Bool). x && b) one ∙ two

-- such a reply is one CONTRL message
module _ (dir : Directory) (b h c : Segment) (rest : List Segment)
    (b_tag : b.tag ≡ Some (record { octets = codes "UNB" })) (h_tag : h.tag ≡ Some (record { octets = codes "UNH" })) (c_tag : c.tag ≡ Some (record { octets = codes "UCI" }))
    (h_read : h.components ≡ components_read unh) (no_group : Each (HasNone (codes "UNG")) rest) (no_message : Each (HasNone (codes "UNH")) rest) where
  abbrev all : List Segment
  all = b ∷ h ∷ c ∷ rest

  groups-none : groups_in all ≡ []
  unfolding group_extents
  groups-none =
      ap (map (λ (e : Extent). group_head_of e (opening_components all e)))
      (none-opened (codes "UNG") (codes "UNE") (codes "UNE" ∷ codes "UNG" ∷ codes "UNZ" ∷ codes "UNB" ∷ []) (tags_in all) 0 (length (tags_in all))
      (λ j. ap (λ (i : ℕ). has_name (codes "UNG") (tag_in (tags_in all) i)) (let same : 0 + j ≡ j = omega arith in same)
      ∙ tag-none (codes "UNG") all (ap (has_name (codes "UNG")) b_tag, (ap (has_name (codes "UNG")) h_tag, (ap (has_name (codes "UNG")) c_tag, no_group))) j))

  abbrev stops : List Octets
  stops = codes "UNT" ∷ codes "UNH" ∷ codes "UNE" ∷ codes "UNG" ∷ codes "UNZ" ∷ codes "UNB" ∷ []

  abbrev message : Extent
  message = extent_to (codes "UNT") (tags_in all) 1 (next_of stops (tags_in all) 1)

  later-tag : (j : ℕ) → has_name (codes "UNH") (tag_in (tags_in all) (2 + j)) ≡ false
  later-tag j =
      ap (λ (i : ℕ). has_name (codes "UNH") (tag_in (tags_in all) i)) (let same : 2 + j ≡ suc (suc j) = omega arith in same)
      ∙ tag-none (codes "UNH") (c ∷ rest) (ap (has_name (codes "UNH")) c_tag, no_message) j

  one-message : message_extents (tags_in all) ≡ message ∷ []
  unfolding message_extents
  one-message =
      let at : ℕ → Option Extent = extent_at (codes "UNH") (codes "UNT") stops (tags_in all) in
      let more : List Extent = filter_map at (range_with_len 2 (length (tags_in (c ∷ rest)))) in
      ap (λ (t : Bool). cons_option (cond t (Some (extent_to (codes "UNT") (tags_in all) 0 (next_of stops (tags_in all) 0))) None) (cons_option (at 1) more)) (ap (has_name (codes "UNH")) b_tag)
      ∙ (ap (λ (t : Bool). cons_option (cond t (Some message) None) more) (ap (has_name (codes "UNH")) h_tag)
      ∙ ap (λ (es : List Extent). message ∷ es) (none-opened (codes "UNH") (codes "UNT") stops (tags_in all) 2 (length (tags_in (c ∷ rest))) later-tag))

  message-components : opening_components all message ≡ components_read unh
  message-components =
      let says : ℕ → List Component = λ i. elim (slice_get all (i - 1)) [ None ↦ [] | Some segment ↦ segment.components ] in
      ap says (first_is (codes "UNT") (tags_in all) 1 (next_of stops (tags_in all) 1)) ∙ h_read

  abbrev head_for : Extent → MessageHead
  head_for e = message_head_of (group_of (group_extents (tags_in all)) (e.first - 1)) e (opening_components all e)

  contrl-by : is_contrl dir (groups_in all) (messages_in all) ≡ true
  contrl-by =
      ap (λ (gs : List GroupHead). is_contrl dir gs (messages_in all)) groups-none
      ∙ (ap (λ (es : List Extent). is_contrl dir [] (map head_for es)) one-message
      ∙ (ap (λ (cs : List Component). option_eq nat_eq (table_for dir cs) (Some 0)) message-components
      ∙ ap (λ (o : Option ℕ). option_eq nat_eq o (Some 0)) (contrl_tabled dir)))

-- what its first UCI says
uci-by : (b h c : Segment) (rest : List Segment) → b.tag ≡ Some (record { octets = codes "UNB" }) → h.tag ≡ Some (record { octets = codes "UNH" }) → c.tag ≡ Some (record { octets = codes "UCI" })
    → uci_in (b ∷ h ∷ c ∷ rest) ≡ c.components
uci-by b h c rest b_tag h_tag c_tag =
    let says : Option Segment → List Component = λ o. elim o [ None ↦ [] | Some segment ↦ segment.components ] in
    let later : List Segment → Option Segment = find (λ segment. has_name (codes "UCI") segment.tag) in
    ap (λ (t : Bool). says (cond t (Some b) (later (h ∷ c ∷ rest)))) (ap (has_name (codes "UCI")) b_tag)
    ∙ (ap (λ (t : Bool). says (cond t (Some h) (later (c ∷ rest)))) (ap (has_name (codes "UCI")) h_tag)
    ∙ ap (λ (t : Bool). says (cond t (Some c) (later rest))) (ap (has_name (codes "UCI")) c_tag))

-- a UCI that is written names what it answers
value-named : (w : written.Segment) (e c i j : ℕ) (v : Octets) → e ≡ suc i → c ≡ 1 + j → get_or (get_or w.elements i []) j [] ≡ v → bytes_eq (value_in (components_read w) e c) v ≡ true
value-named w e c i j v here at is = (bytes_eq-Decides (value_in (components_read w) e c) v).1 (value-back w e c i j here at ∙ is)

answer-by : (level : Level) (version : ℕ) (sender recipient : Party) (reference action : Octets) (error : Option ErrorLine)
    → is_answer (Good level version sender recipient reference) (value_in (components_read (uci sender recipient reference action error))) ≡ true
answer-by level version sender recipient reference action error =
    let w : written.Segment = uci sender recipient reference action error in
    let values : Values = value_in (components_read w) in
    both (bytes_eq (values 1 1) reference && is_party values 2 sender) (is_party values 3 recipient)
    (both (bytes_eq (values 1 1) reference) (is_party values 2 sender)
    (value-named w 1 1 0 0 reference refl refl refl)
    (both (bytes_eq (values 2 1) sender.id && bytes_eq (values 2 2) sender.qualifier) (bytes_eq (values 2 3) sender.route)
    (both (bytes_eq (values 2 1) sender.id) (bytes_eq (values 2 2) sender.qualifier) (value-named w 2 1 1 0 sender.id refl refl refl) (value-named w 2 2 1 1 sender.qualifier refl refl refl))
    (value-named w 2 3 1 2 sender.route refl refl refl)))
    (both (bytes_eq (values 3 1) recipient.id && bytes_eq (values 3 2) recipient.qualifier) (bytes_eq (values 3 3) recipient.route)
    (both (bytes_eq (values 3 1) recipient.id) (bytes_eq (values 3 2) recipient.qualifier) (value-named w 3 1 2 0 recipient.id refl refl refl) (value-named w 3 2 2 1 recipient.qualifier refl refl refl))
    (value-named w 3 3 2 2 recipient.route refl refl refl))

module _ (sender recipient : Party) (reference : Octets) (ss : List Segment) (reply : IsBegunReply sender recipient reference ss) where
  -- a reply that begins so is one CONTRL message
  pub contrl-is : (dir : Directory) → is_contrl dir (groups_in ss) (messages_in ss) ≡ true
  contrl-is dir =
      subst (λ (xs : List Segment). is_contrl dir (groups_in xs) (messages_in xs) ≡ true) (sym reply.is)
      (contrl-by dir reply.b reply.h reply.c reply.rest reply.b_tag reply.h_tag reply.c_tag reply.h_read reply.no_group reply.no_message)

  -- and answers this interchange
  pub answer-is : (level : Level) (version : ℕ) → is_answer (Good level version sender recipient reference) (value_in (uci_in ss)) ≡ true
  answer-is level version =
      ap (λ (xs : List Segment). is_answer (Good level version sender recipient reference) (value_in (uci_in xs))) reply.is
      ∙ (ap (λ (cs : List Component). is_answer (Good level version sender recipient reference) (value_in cs))
      (uci-by reply.b reply.h reply.c reply.rest reply.b_tag reply.h_tag reply.c_tag ∙ reply.c_read)
      ∙ answer-by level version sender recipient reference reply.action reply.error)
