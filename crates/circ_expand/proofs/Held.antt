-- Entries with terms for their parameters, entry by entry.
use Rattle.std.proofs.Common.{◌≡◌, ◌≤◌, ◌<◌, ℕ, ◌+◌, List, [], ◌∷◌, ◌++◌, zero, suc, map, drop, reverse, length, get_or, refl, ap, sym, ◌∙◌, subst, append_assoc, append-nil, arith}
use Rattle.std.proofs.lemmas.List.{drop_all, map-append, reverse-reverse}
use Rattle.std.specs.declared.rc.Rc.{Rc}
use Rattle.circ_term.proofs.Within.{drop_read}
use Rattle.circ_theory.specs.Theory.{Theory}
use Rattle.circ_theory.specs.Limits.{argument_limit}
use Rattle.circ_entry.specs.Entries.{Numbered, numbered_of, numbered_entries}
use Rattle.circ_entry.specs.Plain.{plain_entry, plain_entries}
use Rattle.circ_entry.specs.declared.entries.Entry.{Entry}
use Rattle.circ_uses.specs.Uses.{held_by, entries_of}
use Rattle.circ_tasks.specs.Tasks.{AreFew}
use Rattle.circ_uses.specs.declared.uses.Held.{Held}

pub few_at : (es : List Entry) (i : ℕ) (e : Entry) → i < length es → e ≡ get_or es i e → AreFew es → length e.params.items ≤ argument_limit
few_at [] i e lt is f = absurd (omega (arith, lt))
few_at (x ∷ es) zero e lt is f = let P : Entry → Type 0 = λ y. length y.params.items ≤ argument_limit in subst P (sym is) f.0
few_at (x ∷ es) (suc i) e lt is f = few_at es i e (omega (arith, lt)) is f.1

abbrev held_as : {A : Type 0} → Theory → Rc Held A → Numbered
held_as th h = held_by th h.value

pub held_next : {A : Type 0} (th : Theory) (hs gs : List (Rc Held A)) (h : Rc Held A) (es : List Entry) (i : ℕ) (e : Entry) → i < length es → e ≡ get_or es i e
    → gs ≡ hs ++ h ∷ [] → held_as th h ≡ numbered_of th (plain_entry e)
    → map (held_as th) hs ++ numbered_entries th (plain_entries (drop i es)) ≡ numbered_entries th (plain_entries es)
    → map (held_as th) gs ++ numbered_entries th (plain_entries (drop (i + 1) es)) ≡ numbered_entries th (plain_entries es)
held_next th hs gs h es i e lt is pushed same before =
    let rest = numbered_entries th (plain_entries (drop (i + 1) es)) in
    ap (λ xs. map (held_as th) xs ++ rest) pushed ∙ ap (λ xs. xs ++ rest) (map-append (held_as th) hs (h ∷ []))
    ∙ append_assoc (map (held_as th) hs) (held_as th h ∷ []) rest
    ∙ ap (λ x. map (held_as th) hs ++ x ∷ rest) same
    ∙ ap (λ xs. map (held_as th) hs ++ numbered_entries th (plain_entries xs)) (sym (drop_read es i e lt is)) ∙ before

pub held_ended : {A : Type 0} (th : Theory) (hs gs : List (Rc Held A)) (es : List Entry) (i : ℕ) → length es ≤ i → gs ≡ reverse hs
    → map (held_as th) hs ++ numbered_entries th (plain_entries (drop i es)) ≡ numbered_entries th (plain_entries es)
    → entries_of th gs ≡ numbered_entries th (plain_entries es)
held_ended th hs gs es i done turned before =
    ap (λ xs. map (held_as th) (reverse xs)) turned ∙ ap (map (held_as th)) (reverse-reverse hs) ∙ sym (append-nil (map (held_as th) hs))
    ∙ ap (λ xs. map (held_as th) hs ++ numbered_entries th (plain_entries xs)) (sym (drop_all i es done)) ∙ before
