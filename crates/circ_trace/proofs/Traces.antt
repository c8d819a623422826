-- Laws of traces.
use Rattle.std.proofs.Common.{◌≡◌, ℕ, List, [], ◌∷◌, map, Result, Ok, Err, refl, ap, sym, subst, ◌∙◌}
use Rattle.std.specs.Prelude.{IfOk}
use Rattle.circ_theory.specs.Theory.{Theory}
use Rattle.circ_theory.specs.Goal.{Goal}
use Rattle.circ_special.specs.declared.place.Place.{Place}
use Rattle.circ_rewrite.specs.Links.{link_of}
use Rattle.circ_rewrite.specs.Replacement.{Traced}
use Rattle.circ_plain_search.specs.Search.{Standing, Ending as SearchEnding, start}
use Rattle.circ_plain_search.specs.Greatest.{GreatestSpecialSet}
use Rattle.circ_plain_search.specs.Numbering.{Found, special}
use Rattle.circ_plain_search.proofs.Unique.{one_set}
use Rattle.circ_plain_search.proofs.Existing.{some_set}
use Rattle.circ_attempt.specs.RewritingSearch.{RewritingSearch, first_going}
use Rattle.circ_attempt.specs.Search.{Conduct, Going, going}
use Rattle.circ_attempt.proofs.Answers.{some_ending}
use Rattle.circ_conditional_search.specs.Versions.{versioned_found}
use Rattle.circ_found.specs.Answering.{found_ending, SearchEnds}
use Rattle.circ_status.specs.Ending.{Ending, plain_ending}
use Rattle.circ_status.specs.declared.ending.Ending.{Ending as TheEnding}
use Rattle.circ_trace.specs.Descents.{first_row, given_row}
use Rattle.circ_trace.specs.Telling.{IsTold}
use Rattle.circ_trace.specs.Tracing.{Turns, turns_text, after_lines, TraceEnds}
use Rattle.circ_trace.proofs.Telling.{turns_finish, one_course, some_turns}

module _ (th : Theory) (l : Conduct) (blocks : List (List Goal)) where
  -- the answer of a trace by its parts
  abbrev answer : List Place → List (List Traced) → List Going → SearchEnding → Ending
  answer G tss xs e =
      after_lines (turns_text th G l (first_row blocks) xs) (found_ending th.signature [] (versioned_found (special G (map (map link_of) tss)) e))

  -- what a trace finds
  abbrev found_in : {e : Ending} → TraceEnds th l blocks e → Found
  found_in t = versioned_found (special t.places (map (map link_of) t.traces)) t.search_ending

  -- it ends as what is found is answered, with lines before
  pub trace_found : (e : Ending) → TraceEnds th l blocks e → (f : Found) × (lines : List ℕ) × (e ≡ after_lines lines (found_ending th.signature [] f))
  trace_found e t = (found_in t, turns_text th t.places l (first_row blocks) t.goings, sym t.is)

  trace_search : (e : Ending) → (t : TraceEnds th l blocks e) → RewritingSearch th blocks l (found_in t)
  trace_search e t = record {
    places = t.places;
    traces = t.traces;
    greatest = t.greatest;
    ending = t.search_ending;
    run = turns_finish th t.places l (first_going l blocks) t.goings t.search_ending t.turns;
    is = refl;
  }

  pub as_search : (e : Ending) → TraceEnds th l blocks e → (f : Ending) × SearchEnds th l [] blocks f × (lines : List ℕ) × (e ≡ after_lines lines f)
  as_search e t = (
    found_ending th.signature [] (found_in t),
    record { found = found_in t; search = trace_search e t; is = refl },
    turns_text th t.places l (first_row blocks) t.goings,
    sym t.is,
  )

  pub one_answer : (e f : Ending) → TraceEnds th l blocks e → TraceEnds th l blocks f → e ≡ f
  one_answer e f s t =
      let same = one_set th l.manner.limits.steps s.places t.places s.traces t.traces s.greatest t.greatest in
      let P : List Place → Type 0 = λ G. Turns th G l (first_going l blocks) s.goings s.search_ending in
      let both = one_course th t.places l (first_going l blocks) s.goings t.goings s.search_ending t.search_ending (subst P same.0 s.turns) t.turns in
      sym s.is ∙ ap (λ G. answer G s.traces s.goings s.search_ending) same.0 ∙ ap (λ tss. answer t.places tss s.goings s.search_ending) same.1
      ∙ ap (λ xs. answer t.places t.traces xs s.search_ending) both.0 ∙ ap (answer t.places t.traces t.goings) both.1 ∙ t.is

  pub some_answer : ((e : Ending) → TraceEnds th l blocks e → ⊥) → ⊥
  some_answer none =
      some_set th l.manner.limits.steps
      (λ G tss g.
      let e = some_ending th G l (first_going l blocks) in
      let r = some_turns th G l (first_going l blocks) e.0 e.1 in
      none (answer G tss r.0 e.0) (record { places = G; traces = tss; greatest = g; goings = r.0; search_ending = e.0; turns = r.1; is = refl }))

  -- the goals of the first block wait at the start
  start_row : given_row (start l.manner.limits blocks).goals ≡ first_row blocks
  start_row = go blocks where
    go : (bs : List (List Goal)) → given_row (start l.manner.limits bs).goals ≡ first_row bs
    go [] = refl
    go (b ∷ bs) = refl

  -- what is told, and then answered, is a trace
  pub told_trace : (G : List Place) (tss : List (List Traced)) → GreatestSpecialSet th l.manner.limits.steps G tss → (st : Standing) → st ≡ start l.manner.limits blocks
      → (lines : List ℕ) (e : SearchEnding) → IsTold th G l st [] lines e → (f : Found) → f ≡ versioned_found (special G (map (map link_of) tss)) e
      → {E : Type 0} (r : Result TheEnding E) → IfOk r (λ x. plain_ending x ≡ after_lines lines (found_ending th.signature [] f))
      → IfOk r (λ x. TraceEnds th l blocks (plain_ending x))
  told_trace G tss g st s lines e told f is (Ok x) a =
      let P : Standing → Type 0 = λ y. Turns th G l (going y []) told.goings e in
      record {
        places = G;
        traces = tss;
        greatest = g;
        goings = told.goings;
        search_ending = e;
        turns = subst P s told.turns;
        is = sym (a ∙ ap (λ y. after_lines y (found_ending th.signature [] f)) told.appended
            ∙ ap (λ y. after_lines (turns_text th G l y told.goings) (found_ending th.signature [] f)) (ap (λ y. given_row y.goals) s ∙ start_row)
            ∙ ap (λ y. after_lines (turns_text th G l (first_row blocks) told.goings) (found_ending th.signature [] y)) is);
      }
  told_trace G tss g st s lines e told f is (Err x) a = tt
