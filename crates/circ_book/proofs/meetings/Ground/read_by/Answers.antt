use Rattle.std.proofs.Common.{◌≡◌, ◌<◌, ◌+◌, ◌∷◌, ◌++◌, [], List, map, drop, length, get_or, ap, sym, subst, ◌∙◌, arith}
use Rattle.std.specs.List.{AllByRecursion}
use Rattle.std.proofs.lemmas.List.{length-map, length-append, drop_all}
use Rattle.circ_term.specs.Tree.{Tree}
use Rattle.circ_term.proofs.Within.{drop_read}
use Rattle.circ_theory.specs.Rewriting.{named}
use Rattle.circ_theory.specs.Goal.{Goal}
use Rattle.circ_special.specs.declared.place.Place.{Place}
use Rattle.circ_proof.specs.PlainProof.{plain_proof, plain_block, plain_step, plain_steps}
use Rattle.circ_proof.specs.Proof.{IsBlockFor, IsPlainBlock, steps_in}
use Rattle.circ_proof.specs.Rules.{State, state, map_step, AllOfStep, StepsOf}
use Rattle.circ_proof.specs.Accepted.{BlocksDerive}
use Rattle.circ_proof.specs.Goals.{AreSortedGoals}
use Rattle.circ_proof.specs.declared.proof.Block.{Block as TheBlock}
use Rattle.circ_proof.proofs.Sorted.{sorted_none, sorted_append}
use Rattle.circ_soundness.proofs.Blocks.{block_sorted}
use Rattle.circ_soundness.proofs.Resolving.{steps_in_table}
use Rattle.circ_entering.specs.Work.{state_of}
use Rattle.circ_book.specs.declared.histories.Node.{Node}
use Rattle.circ_book.specs.declared.book.Followed.{Followed}
use Rattle.circ_book.specs.declared.book.Derivations.{Derivations}
use Rattle.circ_book.specs.Book.{derivations}
use Rattle.circ_expansion.proofs.Expanding.{block_bare}
use Rattle.circ_book.proofs.Reading.{ReadsTo, reads_first, reads_added, first_runs, others_derive, blocks_few, all_read}
use Rattle.circ_book.proofs.meetings.Ground.read_by.Goals as goal

pub loop-block-init : goal.loop-block-init
loop-block-init c =
    let th = c.args.self.now.theory.now in
    let p = plain_proof c.args.proof.now in
    let none : (state_of c.args.work.now).hypotheses ≡ [] = ap {A = State} (λ x. x.hypotheses) c.requires.start in
    let D : List Goal → Type 0 = λ H. (dss : List (List Goal)) × BlocksDerive th p H p.blocks dss in
    let R1 : List Node → Type 0 = λ y. ReadsTo th p y [] [] [] p.blocks in
    let R2 : List Followed → Type 0 = λ y. ReadsTo th p c.new.result.items y [] [] p.blocks in
    let R3 : List Derivations → Type 0 = λ y. ReadsTo th p c.new.result.items c.new-2.result.items y [] p.blocks in
    let R4 : List Goal → Type 0 = λ y. ReadsTo th p c.new.result.items c.new-2.result.items c.new-3.result.items y p.blocks in
    record {
      work = c.requires.work;
      terms = c.requires.terms;
      no_goal = ap {A = State} (λ x. x.goals) c.requires.start;
      reads = subst R4 (sym none) (subst R3 (sym c.new-3.ensures.items) (subst R2 (sym c.new-2.ensures.items)
          (subst R1 (sym c.new.ensures.items) (reads_first th p))));
      derive = subst D (sym none) (c.requires.accepted.0, c.requires.accepted.1.blocks);
      sorted = (let S : List Goal → Type 0 = AreSortedGoals th in subst S (sym none) (sorted_none th));
      blocks = c.requires.for_theory.blocks;
      plain = c.requires.plain.blocks;
      count = ap length c.new-3.ensures.items;
      room = omega (arith, ap length c.new.ensures.items);
    }

pub add_block-requires-clause-in_table : goal.add_block-requires-clause-in_table
add_block-requires-clause-in_table c =
    let th = c.args.self.now.theory.now in
    let p = plain_proof c.args.proof.now in
    let x = c.block-item.result in
    let e = drop_read c.args.proof.now.blocks.items c.loop-block.block-index x (omega (arith, c.loop-block-test.true, ap length c.deref-block-items.ensures.value))
    (c.block-item.is ∙ ap (λ ys. get_or ys c.loop-block.block-index c.block-item.result) c.deref-block-items.ensures.value) in
    let B : List TheBlock → Type 0 = λ ys. AllByRecursion (IsBlockFor th p.table) (map plain_block ys) in
    let f = subst B e c.loop-block.invariant.blocks in
    let T : List Tree → Type 0 = λ t. AllByRecursion (AllOfStep (λ n. n < length t)) (plain_steps x.steps.items) in
    subst T (sym c.requires.table) (steps_in_table (length p.table) (plain_steps x.steps.items) f.0.steps)

pub add_block-requires-clause-sorted : goal.add_block-requires-clause-sorted
add_block-requires-clause-sorted c =
    let th = c.args.self.now.theory.now in
    let p = plain_proof c.args.proof.now in
    let x = c.block-item.result in
    let e = drop_read c.args.proof.now.blocks.items c.loop-block.block-index x (omega (arith, c.loop-block-test.true, ap length c.deref-block-items.ensures.value))
    (c.block-item.is ∙ ap (λ ys. get_or ys c.loop-block.block-index c.block-item.result) c.deref-block-items.ensures.value) in
    let B : List TheBlock → Type 0 = λ ys. AllByRecursion (IsBlockFor th p.table) (map plain_block ys) in
    let f = subst B e c.loop-block.invariant.blocks in
    (c.loop-block.invariant.sorted, block_sorted th p.table c.requires.for_theory.sorted (plain_block x) f.0)

pub add_block-requires-clause-bare_goals : goal.add_block-requires-clause-bare_goals
add_block-requires-clause-bare_goals c =
    let th = c.args.self.now.theory.now in
    let p = plain_proof c.args.proof.now in
    let x = c.block-item.result in
    let e = drop_read c.args.proof.now.blocks.items c.loop-block.block-index x (omega (arith, c.loop-block-test.true, ap length c.deref-block-items.ensures.value))
    (c.block-item.is ∙ ap (λ ys. get_or ys c.loop-block.block-index c.block-item.result) c.deref-block-items.ensures.value) in
    let B : List TheBlock → Type 0 = λ ys. AllByRecursion (IsBlockFor th p.table) (map plain_block ys) in
    let f = subst B e c.loop-block.invariant.blocks in
    let Q : List TheBlock → Type 0 = λ ys. AllByRecursion IsPlainBlock (map plain_block ys) in
    let g = subst Q e c.loop-block.invariant.plain in
    block_bare p.table x.goals.items (plain_block x).names f.0.goals g.0.names

pub add_block-requires-clause-runs : goal.add_block-requires-clause-runs
add_block-requires-clause-runs c =
    let th = c.args.self.now.theory.now in
    let p = plain_proof c.args.proof.now in
    let x = c.block-item.result in
    let i = c.loop-block.block-index in
    let H = (state_of c.loop-block.work).hypotheses in
    let dss = c.loop-block.invariant.derive.0 in
    let e = drop_read c.args.proof.now.blocks.items i x (omega (arith, c.loop-block-test.true, ap length c.deref-block-items.ensures.value))
    (c.block-item.is ∙ ap (λ ys. get_or ys c.loop-block.block-index c.block-item.result) c.deref-block-items.ensures.value) in
    let D : List TheBlock → Type 0 = λ ys. BlocksDerive th p H (map plain_block ys) dss in
    let r = first_runs th p H (plain_block x) (map plain_block (drop (i + 1) c.args.proof.now.blocks.items)) dss (subst D e c.loop-block.invariant.derive.1) in
    let T : List Tree → Type 0 = λ t. (F : List Goal) × StepsOf th p.places (map (map_step (named t)) (plain_steps x.steps.items)) (state H x.goals.items) (state F []) in
    let G : List Place → Type 0 =
    λ g. (F : List Goal) × StepsOf th g (map (map_step (named c.args.self.now.table.now)) (plain_steps x.steps.items)) (state H x.goals.items) (state F []) in
    subst G (sym c.requires.gamma) (subst T (sym c.requires.table) r)

pub add_block-requires-clause-few : goal.add_block-requires-clause-few
add_block-requires-clause-few c =
    let th = c.args.self.now.theory.now in
    let p = plain_proof c.args.proof.now in
    omega (
      arith,
      c.loop-block.invariant.count,
      c.loop-block-test.true,
      ap length c.deref-block-items.ensures.value,
      blocks_few th p.table p.blocks c.requires.for_theory.blocks,
      c.requires.for_theory.few_steps,
      length-map c.args.proof.now.blocks.items plain_block,
    )

pub loop-block-preserved : goal.loop-block-preserved
loop-block-preserved c =
    let th = c.args.self.now.theory.now in
    let p = plain_proof c.args.proof.now in
    let inv = c.loop-block.invariant in
    let x = c.block-item.result in
    let i = c.loop-block.block-index in
    let H = (state_of c.loop-block.work).hypotheses in
    let bs = map plain_block (drop (i + 1) c.args.proof.now.blocks.items) in
    let e = drop_read c.args.proof.now.blocks.items i x (omega (arith, c.loop-block-test.true, ap length c.deref-block-items.ensures.value))
    (c.block-item.is ∙ ap (λ ys. get_or ys c.loop-block.block-index c.block-item.result) c.deref-block-items.ensures.value) in
    let a = c.in_ok-add_block.ensures.added in
    let after = c.in_ok-add_block.ensures.state in
    let K : (state_of c.add_block.new.work).hypotheses ≡ H ++ x.goals.items = ap {A = State} (λ y. y.hypotheses) after in
    let R : List TheBlock → Type 0 =
    λ ys. ReadsTo th p c.loop-block.book.nodes.items c.loop-block.book.goals.items c.loop-block.book.blocks.items H (map plain_block ys) in
    let D : List TheBlock → Type 0 = λ ys. BlocksDerive th p H (map plain_block ys) inv.derive.0 in
    let B : List TheBlock → Type 0 = λ ys. AllByRecursion (IsBlockFor th p.table) (map plain_block ys) in
    let Q : List TheBlock → Type 0 = λ ys. AllByRecursion IsPlainBlock (map plain_block ys) in
    let M : List Goal → Type 0 = λ y. (dss : List (List Goal)) × BlocksDerive th p y bs dss in
    let S : List Goal → Type 0 = AreSortedGoals th in
    let f = subst B e inv.blocks in
    let steps : steps_in (map plain_block (drop i c.args.proof.now.blocks.items)) ≡ length (plain_steps x.steps.items) + steps_in bs =
    ap (λ ys. steps_in (map plain_block ys)) e in
    record {
      work = c.in_ok-add_block.ensures.work;
      terms = c.in_ok-add_block.ensures.terms;
      no_goal = ap {A = State} (λ y. y.goals) after;
      reads = reads_added th p c.args.self.now.gamma.now c.args.self.now.table.now c.loop-block.book c.add_block.new.book H (state_of c.add_block.new.work).hypotheses x bs
          c.requires.table c.requires.gamma a K (subst R e inv.reads);
      derive = subst M (sym K) (others_derive th p H (plain_block x) bs inv.derive.0 (subst D e inv.derive.1));
      sorted = subst S (sym K) (sorted_append th H x.goals.items inv.sorted
          (block_sorted th p.table c.requires.for_theory.sorted (plain_block x) f.0));
      blocks = f.1;
      plain = (subst Q e inv.plain).1;
      count = omega (arith, ap length a.blocks, length-append c.loop-block.book.blocks.items (derivations (length c.loop-block.book.goals.items) a.numbers.derived ∷ []), inv.count);
      room = omega (arith, a.few, inv.room, steps, length-map x.steps.items plain_step);
    }

pub returns : goal.returns
returns c =
    let p = plain_proof c.args.proof.now in
    let L : List TheBlock → Type 0 = λ ys.
    ReadsTo c.args.self.now.theory.now p c.loop-block.book.nodes.items c.loop-block.book.goals.items c.loop-block.book.blocks.items
    (state_of c.loop-block.work).hypotheses (map plain_block ys) in
    all_read c.args.self.now.theory.now p c.loop-block.book (state_of c.loop-block.work).hypotheses
    (subst L (drop_all c.loop-block.block-index c.args.proof.now.blocks.items
    (omega (arith, c.loop-block-test.false, ap length c.deref-block-items.ensures.value))) c.loop-block.invariant.reads)
