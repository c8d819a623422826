use Rattle.std.proofs.Common.{map, ap, sym, ◌∙◌}
use Rattle.circ_check.specs.Deciding.{plain_list}
use Rattle.circ_reports.specs.Check.{report_text}
use Rattle.circ_reports.proofs.Pieces.{end_fault, whole}
use Rattle.circ_reports.proofs.incoming.Incoming.judge.Goals as goal

pub returns-in-Err : goal.returns-in-Err
returns-in-Err c th bytes t =
    c.refusal.ensures.refuses th bytes
    (end_fault th bytes c.args.self.now c.in-Err.fault t.follows (λ parts s. (c.in-Err.ensures.stands th bytes parts s).0)
    (λ f k. let e = c.in-Err.ensures.again f k in cc))

pub returns-in-Some : goal.returns-in-Some
returns-in-Some c th bytes t =
    let w = whole th bytes c.args.self.now t.follows (λ parts s. let e = c.in_default.ensures.stands th bytes parts s in (e.0, e.1, e.2))
    (λ f k. let never = c.in_default.ensures.again f k in cc) in
    (w.0, w.1.reads, c.in-Some.ensures.exact th w.0 w.1.reads.proof_for w.1.checked)

pub returns-in-Ok : goal.returns-in-Ok
returns-in-Ok c th bytes t =
    let w = whole th bytes c.args.self.now t.follows (λ parts s. let e = c.in_default.ensures.stands th bytes parts s in (e.0, e.1, e.2))
    (λ f k. let never = c.in_default.ensures.again f k in cc) in
    let p = w.0 in
    let fits = w.1.reads.proof_for in
    let checked = w.1.checked in
    let derived = map plain_list c.derived.result.now in
    let none = sym c.in_default-failed.ensures.same in (
      p,
      w.1.reads,
      record {
        derived = derived;
        accepted = c.derived.ensures.exact th p fits checked none;
        behave = c.in_default-failed.ensures.sound th p fits checked;
        derived_behave = c.derived.ensures.sound th p fits checked none;
        text_is = c.in-Ok.ensures p (w.1.goals ∙ ap (map plain_list) (sym c.as_slice-goals.ensures.value))
            ∙ ap (λ u. report_text c.args.report u.signature p derived) t.theory;
      },
    )
