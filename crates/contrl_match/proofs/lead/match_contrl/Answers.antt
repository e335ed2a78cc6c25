use Rattle.std.proofs.Common.{subst}
use Rattle.dir_compile.specs.Directory.{IsDirectory}
use Rattle.contrl_match.proofs.LedLemmas.{found-led, stop-led}
use Rattle.contrl_match.proofs.lead.match_contrl.Goals as goal

pub returns-clause-led_back : goal.returns-clause-led_back
returns-clause-led_back c =
    found-led c.args.engine.now.directory (subst IsDirectory c.directory.ensures.directory c.parts-parts.ensures.directory)
    c.args.engine.now.text c.args.octets.now (λ found. found.items) c.match_reply.result c.match_reply.ensures.found

pub returns-clause-only_memory : goal.returns-clause-only_memory
returns-clause-only_memory c =
    stop-led c.args.engine.now.directory (subst IsDirectory c.directory.ensures.directory c.parts-parts.ensures.directory)
    c.args.engine.now.text c.args.octets.now c.match_reply.result c.match_reply.ensures.stop
