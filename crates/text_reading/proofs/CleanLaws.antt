-- The octets of an acknowledgement have no error.
use Rattle.std.proofs.Common.{◌≡◌, ◌≢◌, ◌⊎◌, ℕ, suc, ◌+◌, ◌<◌, Bool, true, false, cond, eqb, Option, Some, None, List, [], ◌∷◌, ◌++◌, get_or, map, length, refl, sym, ap, ◌∙◌, inl, inr, subst, arith, lt-ltb}
use Rattle.std.specs.Prelude.{All, IfOk, IsTrue, Result, Ok, Err, codes, decimal, is_some, slice_get, unwrap_or}
use Rattle.std.specs.List.{enumerate_from, flat_map}
use Rattle.std.specs.Str.{bytes_eq}
use Rattle.std.proofs.lemmas.Bool.{eqb-false}
use Rattle.std.proofs.lemmas.List.{length-map, map-append}
use Rattle.std.proofs.lemmas.Fmt.{decimal_digit}
use Rattle.edi_octets.specs.Decimal.{decimal_in}
use Rattle.edi_tables.specs.Rows.{has_name, when}
use Rattle.edi_tables.specs.declared.tag.Tag.{Tag}
use Rattle.dir_compile.specs.Directory.{IsDirectory, table_names}
use Rattle.dir_compile.specs.declared.parts.Parts.{Parts}
use Rattle.seg_lexer.specs.Context.{context_of, opening_components_of, version_in}
use Rattle.seg_lexer.specs.Fields.{octets_at}
use Rattle.seg_lexer.specs.Segments.{segments_of, tail_of}
use Rattle.seg_lexer.specs.Service.{service_of}
use Rattle.seg_lexer.specs.declared.context.Context.{Context}
use Rattle.seg_lexer.specs.declared.context.Level.{Level}
use Rattle.seg_lexer.specs.declared.context.Level.TheVariants as levels
use Rattle.seg_lexer.specs.declared.service.Service.{Service}
use Rattle.error_ledger.specs.Order.{in_order}
use Rattle.error_ledger.specs.declared.error.ErrorLine.{ErrorLine}
use Rattle.error_ledger.specs.declared.kind.Kind.TheVariants as kind
use Rattle.element_check.specs.Local.{local_errors_of}
use Rattle.element_check.specs.declared.error.LocalError.{LocalError}
use Rattle.table_walk.specs.Errors.{StructureError}
use Rattle.envelope_check.specs.Envelope.{envelope_errors_of}
use Rattle.envelope_check.specs.Heads.{kind_of}
use Rattle.segment_records.specs.Messages.{structure_errors_at, position_at, table_for}
use Rattle.segment_records.specs.Segments.{Segment, segments_by, segments_of_text, value_in}
use Rattle.contrl_writer.specs.Contrl.{answer_by, contrl_for, contrl_of, interchange_answer, lower_segments, message_of}
use Rattle.contrl_writer.specs.Levels.{first_error, interchange_errors, levelled}
use Rattle.contrl_segments.specs.Service.{answered_version, level_word, syntax_identifier, uci, unb, unh, unt, unz}
use Rattle.contrl_segments.specs.ReadBack.{IsReadAs, components_read}
use Rattle.contrl_segments.specs.Stamp.{IsStamp, is_reference_of}
use Rattle.contrl_segments.specs.Written as written
use Rattle.contrl_segments.specs.Written.{contrl_text}
use Rattle.contrl_writer.specs.declared.answer.Contrl.{Contrl}
use Rattle.contrl_writer.specs.declared.answer.Contrl.TheVariants as answers
use Rattle.contrl_segments.specs.declared.stamp.Stamp.{Stamp}
use Rattle.contrl_segments.specs.declared.summary.Opening.{Opening}
use Rattle.contrl_segments.specs.declared.summary.Opening.TheVariants.{NoUnb, BadUnb, Good}
use Rattle.contrl_segments.specs.declared.summary.Party.{Party}
use Rattle.contrl_segments.specs.declared.summary.Summary.{Summary}
use Rattle.contrl_segments.proofs.ReadLemmas.{written-read}
use Rattle.contrl_writer.proofs.TaggedLemmas.{all-written, no-advice}
use Rattle.text_reading.proofs.Back.{AllTagged, AreRead, context-back, have-tags, length-read, segments-back, service-back, splits-back, value-back}
use Rattle.text_reading.proofs.Each.{Each, each-get}
use Rattle.text_reading.proofs.Items.{IsLawful, lawful-free}
use Rattle.text_reading.proofs.Reports.{tags_of}
use Rattle.text_reading.proofs.Runs.{HaveTags, contrl_runs, runs_free}
use Rattle.text_reading.proofs.Shape.{IsGoodSummary, IsShaped, contrl_shape, shaped}
use Rattle.text_reading.proofs.Values.{context_with, decimal_back}
use Rattle.text_reading.proofs.Walk.Spot.{AtHead}
use Rattle.text_reading.specs.Clean.{IsCleanAnswer, IsGoodOpening}
use Rattle.segment_records.specs.Errors.{fault_line, is_unknown, local_line, nodes_in, segment_lines, versions}
use Rattle.text_reading.specs.Errors.{advice_lines, errors_found, errors_of, first_segment, opening_lines, syntax_lines, tail_lines}
use Rattle.segment_records.specs.Errors as errors
use Rattle.segment_records.specs.Heads.{heads_of, marks_of}
use Rattle.text_reading.specs.Summary.{contrl_to, summary_of}
use Rattle.text_reading.proofs.CleanHeads.{IsMessage, each-plain, message_free}
use Rattle.text_reading.proofs.CleanSummary.{IsOpened, summary_good, summary_opened}

abbrev tag_with : List ℕ → Option Tag
tag_with octets = Some (record { octets = octets })

-- the segments of an acknowledgement as they are read
record IsReadShaped (first head : written.Segment) (rest : List written.Segment) (own : List ℕ) (ss : List Segment) : Type 0 where
  b : Segment
  h : Segment
  c : Segment
  front : List Segment
  u : Segment
  z : Segment
  is : ss ≡ b ∷ h ∷ c ∷ (front ++ u ∷ z ∷ [])
  b_read : b.components ≡ components_read first
  h_read : h.components ≡ components_read unh
  front_read : AreRead front rest
  u_read : u.components ≡ components_read (unt (length rest + 3))
  z_read : z.components ≡ components_read (unz own)

two_back : (first head : written.Segment) (rest : List written.Segment) (own : List ℕ) (b h c : Segment) (ss front back : List Segment) → ss ≡ front ++ back
    → b.components ≡ components_read first → h.components ≡ components_read unh → AreRead front rest → AreRead back (unt (length rest + 3) ∷ unz own ∷ [])
    → IsReadShaped first head rest own (b ∷ h ∷ c ∷ ss)
two_back first head rest own b h c ss front [] is b_read h_read front_read back_read = absurd back_read
two_back first head rest own b h c ss front (u ∷ []) is b_read h_read front_read back_read = absurd back_read.1
two_back first head rest own b h c ss front (u ∷ z ∷ y ∷ ys) is b_read h_read front_read back_read = absurd back_read.1.1
two_back first head rest own b h c ss front (u ∷ z ∷ []) is b_read h_read front_read back_read = record {
  b = b;
  h = h;
  c = c;
  front = front;
  u = u;
  z = z;
  is = ap (λ (xs : List Segment). b ∷ h ∷ c ∷ xs) is;
  b_read = b_read;
  h_read = h_read;
  front_read = front_read;
  u_read = back_read.0.0;
  z_read = back_read.1.0.0;
}

read_shaped : (first head : written.Segment) (rest : List written.Segment) (own : List ℕ) (ss : List Segment) → AreRead ss (shaped first head rest own) → IsReadShaped first head rest own ss
read_shaped first head rest own [] read = absurd read
read_shaped first head rest own (b ∷ []) read = absurd read.1
read_shaped first head rest own (b ∷ h ∷ []) read = absurd read.1.1
read_shaped first head rest own (b ∷ h ∷ c ∷ ss) read =
    let split = splits-back ss rest (unt (length rest + 3) ∷ unz own ∷ []) read.1.1.1 in
    two_back first head rest own b h c ss split.front split.back split.is read.0.0 read.1.0.0 split.front_read split.back_read

-- tags
all_tagged : (context : Context) (ws : List written.Segment) → Each (IsLawful context) ws → AllTagged ws
all_tagged context [] law = tt
all_tagged context (w ∷ ws) law = (law.0.tag, all_tagged context ws law.1)

each-front : {X : Type 0} (P : X → Type 0) (xs ys : List X) → Each P (xs ++ ys) → Each P xs
each-front P [] ys all = tt
each-front P (x ∷ xs) ys all = (all.0, each-front P xs ys all.1)

-- local errors
free_each : (dir : Parts) (context : Context) (ss : List Segment) (ws : List written.Segment) → AreRead ss ws → Each (IsLawful context) ws → Each (λ (s : Segment). local_errors_of dir context s.components ≡ []) ss
free_each dir context [] [] read law = tt
free_each dir context [] (w ∷ ws) read law = absurd read
free_each dir context (s ∷ ss) [] read law = absurd read
free_each dir context (s ∷ ss) (w ∷ ws) read law =
    (ap (local_errors_of dir context) read.0.0 ∙ lawful-free dir context w law.0, free_each dir context ss ws read.1 law.1)

-- the errors of each segment
lines_none : (f : ℕ × Segment → List ErrorLine) (k : ℕ) (ss : List Segment) → ((i : ℕ) (s : Segment) → slice_get ss i ≡ Some s → f (k + i, s) ≡ []) → flat_map f (enumerate_from k ss) ≡ []
lines_none f k [] none = refl
lines_none f k (s ∷ ss) none =
    let here : f (k, s) ≡ [] = ap (λ (n : ℕ). f (n, s)) (let same : k ≡ k + 0 = omega arith in same) ∙ none 0 s refl in
    ap (λ (es : List ErrorLine). es ++ flat_map f (enumerate_from (k + 1) ss)) here
    ∙ lines_none f (k + 1) ss (λ i x at. ap (λ (n : ℕ). f (n, x)) (let same : k + 1 + i ≡ k + suc i = omega arith in same) ∙ none (suc i) x at)

five_none : (p q r s t : List ErrorLine) → p ≡ [] → q ≡ [] → r ≡ [] → s ≡ [] → t ≡ [] → p ++ q ++ r ++ s ++ t ≡ []
five_none p q r s t one two three four five = rw (one, two, three, four, five) refl

-- the table of CONTRL
pub contrl_tabled : (dir : Parts) → table_for dir (components_read unh) ≡ Some 0
contrl_tabled dir =
    ap (λ (b : Bool). let none : Option ℕ = None in cond b (Some 0) none)
    (lt-ltb 0 (length (table_names dir)) (omega arith))

-- levels and versions that there are
known_level : (level : Level) → is_unknown (level_word level) errors.levels ≡ false
known_level levels.A = refl
known_level levels.B = refl
known_level levels.C = refl
known_level levels.D = refl
known_level levels.E = refl
known_level levels.F = refl

-- the version of an answer is 1, 2 or 3
abbrev IsAnswered : ℕ → Type 0
IsAnswered n = (n ≡ 1) ⊎ ((n ≡ 2) ⊎ (n ≡ 3))

-- and that of a text may be 4 too
abbrev IsVersion : ℕ → Type 0
IsVersion n = (n ≡ 4) ⊎ IsAnswered n

known_version : (n : ℕ) → IsAnswered n → is_unknown (decimal n) versions ≡ false
known_version n (inl is) = ap (λ (m : ℕ). is_unknown (decimal m) versions) is ∙ ap (λ (v : List ℕ). is_unknown v versions) (decimal_digit 1 (omega arith))
known_version n (inr (inl is)) = ap (λ (m : ℕ). is_unknown (decimal m) versions) is ∙ ap (λ (v : List ℕ). is_unknown v versions) (decimal_digit 2 (omega arith))
known_version n (inr (inr is)) = ap (λ (m : ℕ). is_unknown (decimal m) versions) is ∙ ap (λ (v : List ℕ). is_unknown v versions) (decimal_digit 3 (omega arith))

-- an answer is written in such a version
answered : (n : ℕ) → IsVersion n → IsAnswered (answered_version n)
answered n (inl is) = subst (λ (m : ℕ). IsAnswered (answered_version m)) (sym is) (inr (inr refl))
answered n (inr (inl is)) = subst (λ (m : ℕ). IsAnswered (answered_version m)) (sym is) (inl refl)
answered n (inr (inr (inl is))) = subst (λ (m : ℕ). IsAnswered (answered_version m)) (sym is) (inr (inl refl))
answered n (inr (inr (inr is))) = subst (λ (m : ℕ). IsAnswered (answered_version m)) (sym is) (inr (inr refl))

-- and read in one before 4
version_before : (n : ℕ) → IsAnswered n → (o : Option (List ℕ)) → unwrap_or o [] ≡ decimal n → eqb (version_in o) 4 ≡ false
version_before n known None is = refl
version_before n (inl same) (Some v) is =
    ap (λ (w : List ℕ). eqb (version_in (Some w)) 4) (is ∙ (ap decimal same ∙ decimal_digit 1 (omega arith)))
version_before n (inr (inl same)) (Some v) is =
    ap (λ (w : List ℕ). eqb (version_in (Some w)) 4) (is ∙ (ap decimal same ∙ decimal_digit 2 (omega arith)))
version_before n (inr (inr same)) (Some v) is =
    ap (λ (w : List ℕ). eqb (version_in (Some w)) 4) (is ∙ (ap decimal same ∙ decimal_digit 3 (omega arith)))

version_by : (one two four : Bool) → IsVersion (cond one 1 (cond two 2 (cond four 4 3)))
version_by true two four = inr (inl refl)
version_by false true four = inr (inr (inl refl))
version_by false false true = inl refl
version_by false false false = inr (inr (inr refl))

version_is : (o : Option (List ℕ)) → IsVersion (version_in o)
version_is None = inr (inr (inr refl))
version_is (Some v) = version_by (bytes_eq v (codes "1")) (bytes_eq v (codes "2")) (bytes_eq v (codes "4"))

context_version : (text : List ℕ) → IsVersion ((context_of text).version)
unfolding context_of
context_version text = let s : Service = service_of text in version_is (octets_at 1 2 (opening_components_of s text (slice_get (segments_of s text) 0)))

module _ (dir : Parts) (directory : IsDirectory dir) (level : Level) (version : ℕ) (own : List ℕ) (ws : List written.Segment) (octets : List ℕ)
    (read : IsReadAs ws octets) (shape : IsShaped level version own ws) (version_known : IsAnswered (answered_version version)) where
  abbrev canonical : List written.Segment
  canonical = shaped shape.first shape.head shape.rest own

  back : IsReadAs canonical octets
  back = subst (λ (xs : List written.Segment). IsReadAs xs octets) shape.is read

  abbrev segments : List Segment
  segments = segments_of_text octets

  abbrev version_back : ℕ
  version_back = version_in (octets_at 1 2 (components_read shape.first))

  before : eqb version_back 4 ≡ false
  before =
      version_before (answered_version version) version_known (octets_at 1 2 (components_read shape.first))
      (value-back shape.first 1 2 0 1 refl refl ∙ shape.syntax)

  other : version_back ≢ 4
  other is = eqb-false version_back 4 before is

  abbrev after : List written.Segment
  after = unh ∷ shape.head ∷ (shape.rest ++ unt (length shape.rest + 3) ∷ unz own ∷ [])

  -- the context of an answer doesn't cut at repetitions
  single : (context_of octets).service ≡ service_of octets
  single = service-back shape.first after octets back level shape.first_tag other

  context_is : context_of octets ≡ context_with level version_back
  context_is = context-back shape.first after octets back level shape.first_tag other shape.word

  are_read : AreRead segments canonical
  are_read = segments-back canonical octets back single

  parts : IsReadShaped shape.first shape.head shape.rest own segments
  parts = read_shaped shape.first shape.head shape.rest own segments are_read

  lawful : Each (IsLawful (context_of octets)) canonical
  lawful = subst (λ (context : Context). Each (IsLawful context) canonical) (sym context_is) (shape.lawful version_back before)

  local_none : Each (λ (s : Segment). local_errors_of dir (context_of octets) s.components ≡ []) segments
  local_none = free_each dir (context_of octets) segments canonical are_read lawful

  -- the tags
  tags_are : map (λ (w : written.Segment). w.tag) canonical ≡ codes "UNB" ∷ codes "UNH" ∷ codes "UCI" ∷ (tags_of shape.rest ++ codes "UNT" ∷ codes "UNZ" ∷ [])
  tags_are =
      ap (λ (ts : List (List ℕ)). shape.first.tag ∷ codes "UNH" ∷ shape.head.tag ∷ ts) (map-append (λ (w : written.Segment). w.tag) shape.rest (unt (length shape.rest + 3) ∷ unz own ∷ []))
      ∙ λ i. shape.first_tag i ∷ codes "UNH" ∷ shape.head_tag i ∷ (tags_of shape.rest ++ codes "UNT" ∷ codes "UNZ" ∷ [])

  have : HaveTags segments (codes "UNB" ∷ codes "UNH" ∷ codes "UCI" ∷ (tags_of shape.rest ++ codes "UNT" ∷ codes "UNZ" ∷ []))
  have = subst (HaveTags segments) tags_are (have-tags segments canonical are_read (all_tagged (context_of octets) canonical lawful))

  have_parts : HaveTags (parts.b ∷ parts.h ∷ parts.c ∷ (parts.front ++ parts.u ∷ parts.z ∷ [])) (codes "UNB" ∷ codes "UNH" ∷ codes "UCI" ∷ (tags_of shape.rest ++ codes "UNT" ∷ codes "UNZ" ∷ []))
  have_parts = subst (λ (ss : List Segment). HaveTags ss (codes "UNB" ∷ codes "UNH" ∷ codes "UCI" ∷ (tags_of shape.rest ++ codes "UNT" ∷ codes "UNZ" ∷ []))) parts.is have

  front_tags : HaveTags parts.front (tags_of shape.rest)
  front_tags = have-tags parts.front shape.rest parts.front_read (all_tagged (context_of octets) shape.rest (each-front (IsLawful (context_of octets)) shape.rest (unt (length shape.rest + 3) ∷ unz own ∷ []) lawful.1.1.1))

  table_known : table_for dir parts.h.components ≡ Some 0
  table_known = ap (table_for dir) parts.h_read ∙ contrl_tabled dir

  -- no structure error
  faults_none : (i : ℕ) (s : Segment) → slice_get segments i ≡ Some s → structure_errors_at dir segments i ≡ []
  faults_none =
      subst (λ (ss : List Segment). (i : ℕ) (s : Segment) → slice_get ss i ≡ Some s → structure_errors_at dir ss i ≡ []) (sym parts.is)
      (runs_free dir directory (parts.b ∷ parts.h ∷ parts.c ∷ (parts.front ++ parts.u ∷ parts.z ∷ []))
      (contrl_runs dir (tags_of shape.rest) parts.b parts.h parts.c (parts.front ++ parts.u ∷ parts.z ∷ []) have_parts table_known shape.walks
      (omega (arith, shape.few, length-map shape.rest (λ (w : written.Segment). w.tag)))))

  segment_none : (i : ℕ) (s : Segment) → slice_get segments i ≡ Some s → segment_lines dir (context_of octets) segments (0 + i, s) ≡ []
  segment_none i s at =
      ap (λ (n : ℕ). segment_lines dir (context_of octets) segments (n, s)) (let same : 0 + i ≡ i = omega arith in same)
      ∙ (ap (λ (xs : List StructureError). map (λ error. fault_line (nodes_in dir (position_at dir segments i)) (i + 1) s error.fault) xs ++ map (local_line (i + 1) s) (local_errors_of dir (context_of octets) s.components)) (faults_none i s at)
      ∙ ap (λ (xs : List LocalError). map (local_line (i + 1) s) xs) (each-get (λ (x : Segment). local_errors_of dir (context_of octets) x.components ≡ []) segments i s local_none at))

  -- the envelope
  last_tags : (front us : List Segment) (tags more : List (List ℕ)) → HaveTags (front ++ us) (tags ++ more) → HaveTags front tags → HaveTags us more
  last_tags [] us [] more all some = all
  last_tags [] us (t ∷ ts) more all some = absurd some
  last_tags (s ∷ front) us [] more all some = absurd some
  last_tags (s ∷ front) us (t ∷ ts) more all some = last_tags front us ts more all.1 some.1

  end_tags : HaveTags (parts.u ∷ parts.z ∷ []) (codes "UNT" ∷ codes "UNZ" ∷ [])
  end_tags = last_tags parts.front (parts.u ∷ parts.z ∷ []) (tags_of shape.rest) (codes "UNT" ∷ codes "UNZ" ∷ []) have_parts.1.1.1 front_tags

  message : IsMessage dir parts.b parts.h parts.c parts.front parts.u parts.z own (codes "1")
  message = record {
    unb = ap kind_of have_parts.0;
    unh = ap kind_of have_parts.1.0;
    plain = ap kind_of have_parts.1.1.0;
    plains = each-plain false AtHead (tags_of shape.rest) parts.front shape.walks front_tags;
    unt = ap kind_of end_tags.0;
    unz = ap kind_of end_tags.1.0;
    opened = ap (λ cs. value_in cs 5 1) parts.b_read ∙ (value-back shape.first 5 1 4 0 refl refl ∙ shape.reference);
    named = ap (λ cs. value_in cs 1 1) parts.h_read ∙ value-back unh 1 1 0 0 refl refl;
    tabled = ap (λ (o : Option ℕ). is_some o) table_known;
    closed = ap (λ cs. value_in cs 2 1) parts.u_read ∙ value-back (unt (length shape.rest + 3)) 2 1 1 0 refl refl;
    counted = ap decimal_in (ap (λ cs. value_in cs 1 1) parts.u_read ∙ value-back (unt (length shape.rest + 3)) 1 1 0 0 refl refl)
        ∙ (decimal_back (length shape.rest + 3) (omega (arith, shape.few))
        ∙ ap (λ (n : ℕ). Some (n + 3)) (sym (length-read parts.front shape.rest parts.front_read)));
    ended = ap (λ cs. value_in cs 2 1) parts.z_read ∙ value-back (unz own) 2 1 1 0 refl refl;
    one = ap decimal_in (ap (λ cs. value_in cs 1 1) parts.z_read ∙ value-back (unz own) 1 1 0 0 refl refl) ∙ refl;
  }

  envelope_none : envelope_errors_of (heads_of dir segments) (marks_of segments) ≡ []
  envelope_none =
      ap (λ (ss : List Segment). envelope_errors_of (heads_of dir ss) (marks_of ss)) parts.is
      ∙ message_free dir parts.b parts.h parts.c parts.front parts.u parts.z own (codes "1") message

  -- the syntax that UNB names
  first_same : first_segment octets ≡ slice_get segments 0
  unfolding segments_of_text
  first_same = ap (λ (s : Service). slice_get (segments_by s octets) 0) (sym single)

  syntax_none : syntax_lines (first_segment octets) ≡ []
  syntax_none =
      ap syntax_lines first_same
      ∙ (ap (λ (ss : List Segment). syntax_lines (slice_get ss 0)) parts.is
      ∙ (ap (λ (t : Option Tag). cond (has_name (codes "UNB") t) (opening_lines parts.b) []) have_parts.0
      ∙ (ap (λ (b : Bool). when b (errors.error_of 1 parts.b 1 1 kind.Syntax) ++ when (is_unknown (value_in parts.b.components 1 2) versions) (errors.error_of 1 parts.b 1 2 kind.Syntax))
      (ap (λ (v : List ℕ). is_unknown v errors.levels) (ap (λ cs. value_in cs 1 1) parts.b_read ∙ (value-back shape.first 1 1 0 0 refl refl ∙ shape.word)) ∙ known_level level)
      ∙ ap (λ (b : Bool). when b (errors.error_of 1 parts.b 1 2 kind.Syntax))
      (ap (λ (v : List ℕ). is_unknown v versions) (ap (λ cs. value_in cs 1 2) parts.b_read ∙ (value-back shape.first 1 2 0 1 refl refl ∙ shape.syntax)) ∙ known_version (answered_version version) version_known))))

  pub found_none : errors_found dir octets ≡ []
  unfolding errors_found
  found_none =
      five_none (envelope_errors_of (heads_of dir segments) (marks_of segments)) (advice_lines (context_of octets).service.sound) (tail_lines (length segments) (tail_of (service_of octets) octets)) (syntax_lines (first_segment octets))
      (flat_map (segment_lines dir (context_of octets) segments) (enumerate_from 0 segments))
      envelope_none (ap (λ (context : Context). advice_lines context.service.sound) context_is)
      (ap (tail_lines (length segments)) (ap (λ (s : Service). tail_of s octets) back.service ∙ back.tail)) syntax_none
      (lines_none (segment_lines dir (context_of octets) segments) 0 segments segment_none)

small_version : (n : ℕ) → IsVersion n → n < 10
small_version n (inl is) = omega arith
small_version n (inr (inl is)) = omega arith
small_version n (inr (inr (inl is))) = omega arith
small_version n (inr (inr (inr is))) = omega arith

-- what is answered for this opening has no error
clean_by : (dir : Parts) (directory : IsDirectory dir) (text : List ℕ) (stamp : Stamp) (own : List ℕ) → IsStamp stamp → IsTrue (is_reference_of own) → All (IsGoodOpening dir text) (segments_of_text text)
    → (opening : Opening) → (summary_of dir text).opening ≡ opening → IsOpened (context_of text) opening → (octets : List ℕ) → answer_by opening (contrl_of (summary_of dir text) stamp own) ≡ answers.Octets octets → errors_found dir octets ≡ []
clean_by dir directory text stamp own stamped own_is good NoUnb is opened octets same = absurd (let never : ⊥ = cc in never)
clean_by dir directory text stamp own stamped own_is good BadUnb is opened octets same = absurd (let never : ⊥ = cc in never)
clean_by dir directory text stamp own stamped own_is good (Good level version sender recipient reference) is opened octets same =
    let s : Summary = summary_of dir text in
    let ws : List written.Segment = contrl_of s stamp own in
    let written_is : contrl_text ws ≡ octets = cc in
    let version_known : IsVersion version = subst IsVersion (sym opened.1.0) (context_version text) in
    let read : IsReadAs ws (contrl_text ws) = written-read ws (all-written s stamp own) (no-advice s stamp own) in
    let shape : IsShaped level version own ws =
    contrl_shape level version sender recipient reference stamp own (small_version version version_known) opened.1.1 stamped.0 stamped.1 own_is s is
    (subst (λ (l : Level). IsGoodSummary l s) (sym opened.0) (summary_good dir text good)) in
    subst (λ (o : List ℕ). errors_found dir o ≡ []) written_is (found_none dir directory level version own ws (contrl_text ws) read shape (answered version version_known))

-- an acknowledgement begins with a UNB of the version that it is written in
record BeginsIn (version : ℕ) (ws : List written.Segment) : Type 0 where
  first : written.Segment
  more : List written.Segment
  is : ws ≡ first ∷ more
  tag : first.tag ≡ codes "UNB"
  syntax : get_or (get_or first.elements 0 []) 1 [] ≡ decimal (answered_version version)

contrl_begins : (level : Level) (version : ℕ) (sender recipient : Party) (reference : List ℕ) (s : Summary) (stamp : Stamp) (own : List ℕ) → s.opening ≡ Good level version sender recipient reference → BeginsIn version (contrl_of s stamp own)
unfolding contrl_of
contrl_begins level version sender recipient reference s stamp own opened =
    subst (λ (o : Opening). BeginsIn version (contrl_for o s stamp own)) (sym opened)
    (record {
      first = unb (syntax_identifier level version) sender recipient stamp own;
      more = message_of (interchange_answer (uci sender recipient reference) (first_error (interchange_errors (levelled s))) (lower_segments (levelled s) s.messages s.groups)) ++ unz own ∷ [];
      is = refl;
      tag = refl;
      syntax = refl;
    })

-- so it is read as it was written
pub contrl_read : (dir : Parts) (text : List ℕ) (stamp : Stamp) (own : List ℕ) (level : Level) (version : ℕ) (sender recipient : Party) (reference : List ℕ)
    → (summary_of dir text).opening ≡ Good level version sender recipient reference
    → AreRead (segments_of_text (contrl_text (contrl_of (summary_of dir text) stamp own))) (contrl_of (summary_of dir text) stamp own)
contrl_read dir text stamp own level version sender recipient reference is =
    let s : Summary = summary_of dir text in
    let ws : List written.Segment = contrl_of s stamp own in
    let octets : List ℕ = contrl_text ws in
    let opened : IsOpened (context_of text) (Good level version sender recipient reference) = subst (IsOpened (context_of text)) is (summary_opened dir text) in
    let known : IsVersion version = subst IsVersion (sym opened.1.0) (context_version text) in
    let begins = contrl_begins level version sender recipient reference s stamp own is in
    let read : IsReadAs ws octets = written-read ws (all-written s stamp own) (no-advice s stamp own) in
    let back : IsReadAs (begins.first ∷ begins.more) octets = subst (λ (xs : List written.Segment). IsReadAs xs octets) begins.is read in
    let before =
    version_before (answered_version version) (answered version known) (octets_at 1 2 (components_read begins.first)) (value-back begins.first 1 2 0 1 refl refl ∙ begins.syntax) in
    segments-back ws octets read
    (service-back begins.first begins.more octets back level begins.tag (eqb-false (version_in (octets_at 1 2 (components_read begins.first))) 4 before))

order_none : in_order [] ≡ []
unfolding in_order
order_none = refl

-- the acknowledgement of a text has no error by the same directory, where no UNG and no UNH of the text has a local error
pub contrl_clean : (dir : Parts) → IsDirectory dir → (text : List ℕ) (stamp : Stamp) (own : List ℕ) → IsStamp stamp → IsTrue (is_reference_of own) → IsCleanAnswer dir text (contrl_to dir text stamp own)
unfolding contrl_to errors_of
contrl_clean dir directory text stamp own stamped own_is good octets same =
    ap in_order (clean_by dir directory text stamp own stamped own_is good (summary_of dir text).opening refl (summary_opened dir text) octets same) ∙ order_none

-- so what is answered is clean, where anything is
pub answer_clean : {E : Type 0} (dir : Parts) → IsDirectory dir → (text : List ℕ) (stamp : Stamp) (own : List ℕ) → IsStamp stamp → IsTrue (is_reference_of own)
    → (r : Result Contrl E) → IfOk r (λ answer. answer ≡ contrl_to dir text stamp own) → IfOk r (λ answer. IsCleanAnswer dir text answer)
answer_clean dir directory text stamp own stamped own_is (Ok answer) is = subst (IsCleanAnswer dir text) (sym is) (contrl_clean dir directory text stamp own stamped own_is)
answer_clean dir directory text stamp own stamped own_is (Err e) is = tt
