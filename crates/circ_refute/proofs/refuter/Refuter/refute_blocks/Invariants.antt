use Rattle.std.proofs.Common.{◌≡◌, ◌≤◌, drop, map}
use Rattle.circ_refute.specs.PlainRefutation.{refutations, goals_in}
use Rattle.circ_refute.proofs.refuter.Refuter.refute_blocks.Given as goal

abbrev pub invariant-loop-block : goal.invariant-loop-block
invariant-loop-block l = record {
  theory : l.self.theory ≡ l.fn.self.theory;
  reducer : l.self.reducer ≡ l.fn.self.reducer;
  rewrites : l.self.rewrites ≤ l.fn.self.rewrites;
  derives : l.self.derives ≤ l.fn.self.derives;
  same : refutations l.fn.self.theory.now l.next l.self.derives l.self.rewrites (goals_in (map (λ b. b.items) (drop l.block-index l.blocks)))
      ≡ refutations l.fn.self.theory.now 1 l.fn.self.derives l.fn.self.rewrites (goals_in (map (λ b. b.items) l.blocks));
}
