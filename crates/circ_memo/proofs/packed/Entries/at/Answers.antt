use Rattle.std.proofs.Common.{ap, sym, ◌∙◌, length, arith}
use Rattle.std.proofs.lemmas.List.{length-map}
use Rattle.circ_memo.specs.Keeping.{kept_at}
use Rattle.circ_memo.specs.Packing.{unpacked}
use Rattle.circ_memo.proofs.Entries.{kept_past, kept_packed}
use Rattle.circ_memo.proofs.packed.Entries.at.Goals as goal

pub returns-then-place-len : goal.returns-then-place-len
returns-then-place-len c =
    c.unpack.ensures ∙ kept_packed c.self.inside.packed.items c.args.place c.index.result.now c.index.ensures (omega (arith, c.if-place-len.true)) ∙ ap (λ os. kept_at os c.args.place) c.self.view_is

pub returns-else-place-len : goal.returns-else-place-len
returns-else-place-len c =
    sym (kept_past c.args.self.now c.args.place (omega (arith, c.if-place-len.false, length-map c.self.inside.packed.items unpacked, ap length c.self.view_is)))
