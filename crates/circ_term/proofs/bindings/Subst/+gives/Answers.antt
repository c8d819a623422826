use Rattle.std.proofs.Common.{arith, sym, ap, ◌∙◌, length}
use Rattle.circ_term.specs.Tree.{list_of, trees_of}
use Rattle.circ_term.proofs.Trees.{list_of-trees_of}
use Rattle.circ_term.specs.Subst.{substitution_of}
use Rattle.circ_term.proofs.Instances.{instance-is_ground, length-instances}
use Rattle.circ_term.proofs.Within.{depth_at}
use Rattle.circ_term.proofs.bindings.Subst.+gives.Goals as goal

pub gives-returns-then-is_ground : goal.gives-returns-then-is_ground
gives-returns-then-is_ground t c =
    rw (instance-is_ground (substitution_of c.args.self.now) c.args.pattern.now (sym c.is_ground.ensures ∙ c.if-is_ground.true)) c.same.ensures

pub gives_all-returns-then-patterns-terms : goal.gives_all-returns-then-patterns-terms
gives_all-returns-then-patterns-terms t c = (
  λ never. absurd (cc),
  λ e. absurd (omega (
    arith,
    ap (λ us. length (list_of us)) e,
    length-instances (substitution_of c.args.self.now) (trees_of c.args.patterns.now),
    ap length (list_of-trees_of c.args.patterns.now),
    ap length (list_of-trees_of c.args.terms.now),
  )),
)

pub gives_all-gives-requires : goal.gives_all-gives-requires
gives_all-gives-requires t c = (omega (arith, depth_at c.args.patterns.now c.loop-i.i c.index-patterns-i.result (omega arith) c.index-patterns-i.is), tt)
