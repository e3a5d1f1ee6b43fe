-- Each branch is the definition's at its test.
use borrow.Author.Tests.{eq-eqb, ne_eqb}
use Prim.Native.Nat.{◌%◌}
use Rattle.lm_tree.proofs.children.Goals as goal

pub returns-then-node-eq1 : goal.returns-then-node-eq1
returns-then-node-eq1 c = rw (eq-eqb (c.args.node % 2) 1 c.if-node-eq1.true) c.pair.ensures

pub returns : goal.returns
returns c = rw (ne_eqb (c.args.node % 2) 1 c.if-node-eq1.false) c.pair-2.ensures
