use Rattle.std.proofs.Common.{◌≡◌, ◌++◌, Bool, true, if◌then◌else◌, sym, subst, ◌∙◌}
use Rattle.std.specs.Prelude.{OnOk}
use Rattle.std.specs.Option.{option_or}
use Rattle.circ_term.specs.Tree.{sort_of}
use Rattle.circ_theory.specs.Observing.{is_hidden}
use Rattle.circ_plain_search.specs.Joining.{first_open}
use Rattle.circ_turn.specs.Standing.{standing}
use Rattle.circ_trace.specs.TurnText.{derived_line, split_line}
use Rattle.circ_trace.proofs.turn_lines.put_opening.Goals as goal

pub returns-then-is_hidden : goal.returns-then-is_hidden
returns-then-is_hidden c =
    let th = c.args.theory.now in
    let a = c.args.account.now in
    let h : is_hidden th (sort_of a.left) ≡ true = rw c.sort.ensures at (sym c.is_hidden.ensures.exact ∙ c.if-is_hidden.true) in
    let P : Bool → Type 0
    = λ b. OnOk c.put_derived.result (c.put_derived.new.out.items ≡ c.args.out.now.items
    ++ (if b then derived_line (standing c.args.state.now) else split_line th.signature (option_or (first_open th a.left) (first_open th a.right)))) in
    subst P (sym h) c.put_derived.ensures
