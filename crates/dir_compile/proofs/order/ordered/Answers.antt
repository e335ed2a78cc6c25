use Rattle.dir_compile.specs.InOrder.{ordered_parts}
use Rattle.dir_compile.proofs.Groups.{twice-free}
use Rattle.dir_compile.proofs.order.ordered.Goals as goal

pub ascending-requires : goal.ascending-requires
ascending-requires c = (twice-free c.args.parts c.requires).elements

pub ordered_lists-requires-clause-named : goal.ordered_lists-requires-clause-named
ordered_lists-requires-clause-named c = (twice-free c.args.parts c.requires).lists

pub ordered_lists-requires-clause-coded : goal.ordered_lists-requires-clause-coded
ordered_lists-requires-clause-coded c = (twice-free c.args.parts c.requires).listed

pub ascending-requires-2 : goal.ascending-requires-2
ascending-requires-2 c = (twice-free c.args.parts c.requires).composites

pub ascending-requires-3 : goal.ascending-requires-3
ascending-requires-3 c = (twice-free c.args.parts c.requires).segments

pub ascending-requires-4 : goal.ascending-requires-4
ascending-requires-4 c = (twice-free c.args.parts c.requires).messages

pub returns : goal.returns
unfolding ordered_parts
returns c = λ i. record {
  version = c.args.parts.version;
  release = c.args.parts.release;
  agency = c.args.parts.agency;
  elements = c.ascending.ensures i;
  lists = c.ordered_lists.ensures i;
  composites = c.ascending-2.ensures i;
  segments = c.ascending-3.ensures i;
  messages = c.ascending-4.ensures i;
}
