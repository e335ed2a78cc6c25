use Rattle.std.proofs.Common.{◌≡◌, ℕ, ◌++◌, List, sym, ap, subst, ◌∙◌}
use Rattle.contrl_writer.specs.Contrl.{contrl_of, interchange_answer, lower_segments, message_of}
use Rattle.contrl_segments.specs.Service.{uci}
use Rattle.contrl_writer.specs.Levels.{first_error, interchange_errors, levelled}
use Rattle.contrl_segments.specs.ReadBack.{IsReadAs}
use Rattle.contrl_segments.specs.Written.{contrl_text}
use Rattle.contrl_writer.proofs.MessageLemmas.{answer-octets, contrl-text}
use Rattle.contrl_segments.proofs.ReadLemmas.{written-read}
use Rattle.contrl_writer.proofs.TaggedLemmas.{all-written, no-advice}
use Rattle.contrl_writer.proofs.write.write_contrl.Goals as goal

put : (c : goal.In_ok-put_unz-in-Good) → c.put_unz.new.out ≡ contrl_text (contrl_of c.args.summary.now c.args.stamp.now c.args.reference.now)
put c =
    let s = c.args.summary.now in
    let first = first_error (interchange_errors (levelled s)) in
    let lower = lower_segments (levelled s) s.messages s.groups in
    contrl-text s c.args.stamp.now c.args.reference.now c.in-Good.level c.in-Good.version c.in-Good.sender c.in-Good.recipient c.in-Good.answered c.in-Good.is
    c.empty-out.result c.put_unb.new.out c.in_ok-out-in-Good.out c.put_unz.new.out c.empty-out.ensures c.in_ok-put_unb-in-Good.ensures.ok
    (c.in_ok-out-in-Good.ensures
    ∙ ap (λ (r : List ℕ). c.put_unb.new.out ++ contrl_text (message_of (interchange_answer (uci c.in-Good.sender c.in-Good.recipient r) first lower))) c.octets.ensures)
    c.in_ok-put_unz-in-Good.ensures.ok

pub returns-in_ok-put_unz-in-Good-clause-answer : goal.returns-in_ok-put_unz-in-Good-clause-answer
returns-in_ok-put_unz-in-Good-clause-answer c =
    answer-octets c.args.summary.now c.args.stamp.now c.args.reference.now c.in-Good.level c.in-Good.version c.in-Good.sender c.in-Good.recipient c.in-Good.answered c.in-Good.is
    c.put_unz.new.out (put c)

pub returns-in_ok-put_unz-in-Good-clause-read_back : goal.returns-in_ok-put_unz-in-Good-clause-read_back
returns-in_ok-put_unz-in-Good-clause-read_back c =
    let segments = contrl_of c.args.summary.now c.args.stamp.now c.args.reference.now in
    subst (IsReadAs segments) (sym (put c))
    (written-read segments (all-written c.args.summary.now c.args.stamp.now c.args.reference.now) (no-advice c.args.summary.now c.args.stamp.now c.args.reference.now))
