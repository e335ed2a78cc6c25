use Rattle.std.proofs.Common.{◌+◌, arith}
use Rattle.std.proofs.lemmas.List.{take_rest}
use Rattle.edi_octets.specs.Left.{line_shown}
use Rattle.dir_messages.proofs.TableLineLemmas.{Position-at, indentation-small}
use Rattle.dir_messages.proofs.table_line.behind_position.Goals as goal

pub overflow_add-result : goal.overflow_add-result
overflow_add-result c =
    omega (arith, c.indentation.ensures, indentation-small (line_shown c.args.line.now) c.requires)

pub slice_bounds-result-count : goal.slice_bounds-result-count
slice_bounds-result-count c =
    (Position-at (line_shown c.args.line.now) c.indentation.result c.requires c.indentation.ensures).fits

pub slice_bounds-result-start : goal.slice_bounds-result-start
slice_bounds-result-start c =
    (Position-at (line_shown c.args.line.now) c.indentation.result c.requires c.indentation.ensures).fits

pub returns : goal.returns
returns c =
    rw (take_rest c.args.line.now.octets.now (c.indentation.result + 4)) (Position-at (line_shown c.args.line.now) c.indentation.result c.requires c.indentation.ensures).stands
