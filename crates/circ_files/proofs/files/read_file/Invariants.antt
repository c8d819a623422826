use Rattle.std.proofs.Common.{◌≡◌, ◌≤◌, ◌<◌, ◌-◌, ◌++◌, ℕ, List, length, Some, true}
use Rattle.circ_outer.specs.Shelf.{IsQuiet}
use Rattle.circ_files.proofs.files.read_file.Given as goal

abbrev pub invariant-loop-buf : goal.invariant-loop-buf
invariant-loop-buf g l = record {
  begun : (g.S.Shelf.state l.shelf).begun ≡ Some l.name;
  short : l.count ≤ 67108864;
  room : 0 < length l.buf.items;
  most : length l.buf.items ≤ 65536;
  given : (bytes : List ℕ) × (length bytes ≡ l.count) × g.I.Intake.takes l.fn.into bytes l.into
      × ((g.S.Shelf.state l.fn.shelf).tells ≡ true → (g.S.Shelf.state l.fn.shelf).holds l.name ≡ Some (bytes ++ (g.S.Shelf.state l.shelf).left));
  tells : (g.S.Shelf.state l.shelf).tells ≡ (g.S.Shelf.state l.fn.shelf).tells;
  holds : (n : List ℕ) → (g.S.Shelf.state l.shelf).holds n ≡ (g.S.Shelf.state l.fn.shelf).holds n;
  quiet : IsQuiet (g.S.Shelf.state l.fn.shelf) (g.S.Shelf.state l.shelf);
}

abbrev pub decreases-loop-buf : goal.decreases-loop-buf
decreases-loop-buf g l = 67108864 - l.count
