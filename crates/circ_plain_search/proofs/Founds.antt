-- A search finds one thing, and it cannot find nothing.
use Rattle.std.proofs.Common.{◌≡◌, List, map, refl, ap, sym, subst, ◌∙◌}
use Rattle.circ_theory.specs.Theory.{Theory}
use Rattle.circ_theory.specs.Goal.{Goal}
use Rattle.circ_special.specs.declared.place.Place.{Place}
use Rattle.circ_rewrite.specs.Links.{link_of}
use Rattle.circ_plain_search.proofs.Unique.{one_set}
use Rattle.circ_plain_search.proofs.Existing.{some_set}
use Rattle.circ_plain_search.specs.Search.{Limits, Reaches, start}
use Rattle.circ_plain_search.specs.Numbering.{Found, special, found_of}
use Rattle.circ_plain_search.specs.PlainSearch.{PlainSearch}
use Rattle.circ_plain_search.proofs.Answers.{one_ending, some_ending}

pub one_found : (th : Theory) (blocks : List (List Goal)) (l : Limits) (f g : Found) → PlainSearch th blocks l f → PlainSearch th blocks l g → f ≡ g
one_found th blocks l f g s t =
    let same = one_set th l.steps s.places t.places s.traces t.traces s.greatest t.greatest in
    let P : List Place → Type 0 = λ G. Reaches th G l (start l blocks) s.ending in
    let ending = one_ending th t.places l (start l blocks) s.ending t.ending (subst P same.0 s.run) t.run in
    s.is ∙ ap (λ G. found_of (special G (map (map link_of) s.traces)) s.ending) same.0
    ∙ ap (λ ts. found_of (special t.places (map (map link_of) ts)) s.ending) same.1
    ∙ ap (found_of (special t.places (map (map link_of) t.traces))) ending ∙ sym t.is

pub some_found : (th : Theory) (blocks : List (List Goal)) (l : Limits) → ((f : Found) → PlainSearch th blocks l f → ⊥) → ⊥
some_found th blocks l none =
    some_set th l.steps
    (λ G tss g.
    let e = some_ending th G l (start l blocks) in
    none (found_of (special G (map (map link_of) tss)) e.0)
    (record { places = G; traces = tss; greatest = g; ending = e.0; run = e.1; is = refl }))
