-- An experiment on a term, from its first entry, which is the last that is kept.
use Rattle.std.proofs.Common.{◌≡◌, ◌≤◌, ◌<◌, ℕ, ◌+◌, List, [], ◌∷◌, ◌++◌, zero, suc, map, length, take, get_or, reverse, Option, Some, None, Result, Ok, Err}
use Rattle.std.proofs.Common.{refl, ap, sym, subst, ◌∙◌, arith}
use Rattle.std.proofs.lemmas.List.{reverse-append}
use Rattle.std.specs.declared.rc.Rc.{Rc}
use Rattle.circ_term.specs.Tree.{Tree}
use Rattle.circ_term.specs.Limits.{Limit, first_limit, or_else, Names, IsWithinLimits}
use Rattle.circ_term.specs.declared.fault.TermFault.{TermFault}
use Rattle.circ_term.specs.declared.fault.TermFault.TheVariants.{TooBig, TooDeep, Memory}
use Rattle.circ_theory.specs.Theory.{Theory}
use Rattle.circ_theory.specs.Experiment.{Entry, derived, on}
use Rattle.circ_entry.specs.Entries.{bare_entries}
use Rattle.circ_expansion.specs.Expand.{stages}
use Rattle.circ_uses.specs.Uses.{held_by, entries_of, first_of}
use Rattle.circ_uses.specs.declared.uses.Held.{Held}

take_one : {X : Type 0} (xs : List X) (j : ℕ) (x : X) → x ≡ get_or xs j x → j < length xs → take (suc j) xs ≡ take j xs ++ x ∷ []
take_one [] j x e h = absurd (omega arith)
take_one (y ∷ xs) zero x e h = ap (λ z. z ∷ []) (sym e)
take_one (y ∷ xs) (suc j) x e h = ap (λ zs. y ∷ zs) (take_one xs j x e (omega arith))

-- the entries that are left, the next one first
abbrev pub entries_left : {A : Type 0} → Theory → List (Rc Held A) → ℕ → List Entry
entries_left th hs j = bare_entries (entries_of th (take j hs))

abbrev pub entry_at : {A : Type 0} → Theory → Rc Held A → Entry
entry_at th h = (held_by th h.value).entry

pub next_entry : {A : Type 0} (th : Theory) (hs : List (Rc Held A)) (k j : ℕ) (h : Rc Held A) → h ≡ get_or hs j h → j < length hs → k ≡ suc j
    → entries_left th hs k ≡ entry_at th h ∷ entries_left th hs j
next_entry {A = A} th hs k j h e lt g =
    let f = λ (r : Rc Held A). held_by th r.value in
    ap (entries_left th hs) g ∙ ap (λ rs. bare_entries (entries_of th rs)) (take_one hs j h e lt)
    ∙ ap (λ rs. bare_entries (map f rs)) (reverse-append (take j hs) (h ∷ []))

pub names_stages : (e : TermFault) (cs ds : List Entry) (c : Entry) (t : Tree) → cs ≡ c ∷ ds → Names e (first_limit (derived c.derivative t c.parameters))
    → Names e (first_of (stages cs t))
names_stages (TooBig n) cs ds c t f h =
    ap (λ es. first_of (stages es t)) f ∙ ap (λ o. or_else o (first_of (stages ds (derived c.derivative t c.parameters)))) h
names_stages (TooDeep n) cs ds c t f h =
    ap (λ es. first_of (stages es t)) f ∙ ap (λ o. or_else o (first_of (stages ds (derived c.derivative t c.parameters)))) h
names_stages Memory cs ds c t f h = tt

pub stages_next : (cs ds : List Entry) (c : Entry) (t : Tree) → cs ≡ c ∷ ds → IsWithinLimits (derived c.derivative t c.parameters)
    → first_of (stages ds (derived c.derivative t c.parameters)) ≡ first_of (stages cs t)
stages_next cs ds c t f h =
    sym (ap (λ es. first_of (stages es t)) f ∙ ap (λ o. or_else o (first_of (stages ds (derived c.derivative t c.parameters)))) h)

take_every : {X : Type 0} (xs : List X) → take (length xs) xs ≡ xs
take_every [] = refl
take_every (x ∷ xs) = ap (λ ys. x ∷ ys) (take_every xs)

pub all_left : {A : Type 0} (th : Theory) (hs : List (Rc Held A)) (k : ℕ) → k ≡ length hs → entries_left th hs k ≡ bare_entries (entries_of th hs)
all_left th hs k e = ap (entries_left th hs) e ∙ ap (λ rs. bare_entries (entries_of th rs)) (take_every hs)

pub none_at_end : {A : Type 0} (th : Theory) (hs : List (Rc Held A)) (k : ℕ) → k ≡ 0 → entries_left th hs k ≡ []
none_at_end th hs k e = ap (entries_left th hs) e
