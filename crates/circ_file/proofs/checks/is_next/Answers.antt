use Rattle.std.proofs.Common.{◌∙◌, ap, true}
use Rattle.std.specs.Option.{option_map_or}
use Rattle.circ_special.specs.Special.{place, comes_before}
use Rattle.circ_file.proofs.Next.{after_last}
use Rattle.circ_file.proofs.checks.is_next.Goals as goal

pub returns-in-Some : goal.returns-in-Some
returns-in-Some c =
    let there = rw c.in-Some.is at c.last.ensures.value in
    c.comes_before.ensures ∙ ap (λ o. option_map_or (λ h. comes_before h (place c.args.op c.args.arg)) o true) there ∙ after_last c.args.places.now (place c.args.op c.args.arg)
