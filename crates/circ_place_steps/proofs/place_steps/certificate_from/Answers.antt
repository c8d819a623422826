use Rattle.std.proofs.Common.{◌≡◌, [], List, Ok, Err, map, ap, ◌∙◌}
use Rattle.circ_theory.specs.Pairs.{plain_pair}
use Rattle.circ_theory.specs.Pairs.{PairOfTerms as Pair}
use Rattle.circ_expansion.specs.Expand.{basis, link_setting}
use Rattle.circ_tasks.specs.Settings.{setting_of}
use Rattle.circ_tasks.specs.Tasks.{basis_of, background_in, certificate_setting}
use Rattle.circ_tasks.specs.declared.calls.Basis.{Basis}
use Rattle.circ_place_steps.proofs.AtPlaces.{certificate_taken}
use Rattle.circ_place_steps.proofs.place_steps.certificate_from.Goals as goal

pub returns-in-Err : goal.returns-in-Err
returns-in-Err c = λ e.
    let fr = c.args.frame.now in
    let s = c.side.result in
    let set : setting_of s ≡ certificate_setting fr =
    c.side.ensures.setting ∙ ap (λ (b : Basis). link_setting (background_in fr) (basis_of fr b)) (c.deref.ensures ∙ c.in_ok-basis.ensures.ok)
    ∙ ap (λ (ps : List Pair). link_setting (background_in fr) (basis [] 0 (map plain_pair ps))) c.new.ensures.items in
    certificate_taken fr c.args.place c.args.derivative (Err c.in-Err.fault) c.args.start c.certificate-links.result.now (setting_of s) s.table.now
    set c.side.ensures.table c.certificate-links.ensures e c.known.ensures c.in-Err.ensures

pub returns : goal.returns
returns c = λ e.
    let fr = c.args.frame.now in
    let s = c.side.result in
    let set : setting_of s ≡ certificate_setting fr =
    c.side.ensures.setting ∙ ap (λ (b : Basis). link_setting (background_in fr) (basis_of fr b)) (c.deref.ensures ∙ c.in_ok-basis.ensures.ok)
    ∙ ap (λ (ps : List Pair). link_setting (background_in fr) (basis [] 0 (map plain_pair ps))) c.new.ensures.items in
    let t = certificate_taken fr c.args.place c.args.derivative (Ok c.in-Ok.last) c.args.start c.certificate-links.result.now (setting_of s) s.table.now
    set c.side.ensures.table c.certificate-links.ensures e c.known.ensures c.in-Ok.ensures in
    record {
      start = e;
      links = c.certificate-links.ensures;
      last = t.0;
      basis = ap (basis_of fr) c.in_ok-basis.ensures.ok ∙ ap (λ (ps : List Pair). basis [] 0 (map plain_pair ps)) c.new.ensures.items;
      within = t.1;
    }
