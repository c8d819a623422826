-- One request to a table after another.
use Rattle.std.proofs.Common.{◌≡◌, ℕ, true, List, [], ◌∷◌, ◌++◌, map, Result, Ok, Err, IfOk, IfErr, refl, ap, sym, subst, ◌∙◌, arith}
use Rattle.circ_term.specs.Tree.{Tree}
use Rattle.circ_term.specs.Growing.{Grows}
use Rattle.circ_proof.specs.Plain.{LinkOf, ChainsOf, plain_link, plain_chains, map_chains}
use Rattle.circ_proof.specs.Link.{chains_terms}
use Rattle.circ_proof.specs.declared.links.Link.{Link}
use Rattle.circ_proof.specs.declared.links.Chain.{Chain}
use Rattle.circ_proof.specs.Table.{added, has, number_in}
use Rattle.circ_proof.proofs.Tables.{grows_self, grows_more, grows_length, added_grows, added_has, number_stays}
use Rattle.circ_plain_search.specs.Numbering.{asked_for}
use Rattle.circ_numbering.specs.Asking.{IsFaultOf, Asks, MakesLink}
use Rattle.circ_numbering.specs.declared.asking.Parts.{Parts}
use Rattle.circ_numbering.specs.declared.fault.NumberFault.{NumberFault}
use Rattle.circ_numbering.specs.declared.fault.NumberFault.TheVariants as fault

pub asked_append : (table ts us : List Tree) → asked_for table (ts ++ us) ≡ asked_for (asked_for table ts) us
asked_append table [] us = refl
asked_append table (t ∷ ts) us = asked_append (added table t) ts us

pub asked_grows : (table ts : List Tree) → Grows table (asked_for table ts)
asked_grows table [] = grows_self table
asked_grows table (t ∷ ts) = grows_more table (added table t) (asked_for (added table t) ts) (added_grows table t) (asked_grows (added table t) ts)

-- a table that is too long stays so
pub fault_later : (old new : List Tree) (e : NumberFault) → Grows old new → IsFaultOf old e → IsFaultOf new e
fault_later old new fault.LongTable a h = omega (arith, h, grows_length old new a)
fault_later old new fault.Memory a h = tt

-- the first request fails, or the second
pub first_fails : (old ts us : List Tree) (e : NumberFault) → IsFaultOf (asked_for old ts) e → IsFaultOf (asked_for old (ts ++ us)) e
first_fails old ts us e h =
    let P : List Tree → Type 0 = λ x. IsFaultOf x e in
    subst P (sym (asked_append old ts us)) (fault_later (asked_for old ts) (asked_for (asked_for old ts) us) e (asked_grows (asked_for old ts) us) h)

pub second_fails : (old mid ts us : List Tree) (e : NumberFault) → mid ≡ asked_for old ts → IsFaultOf (asked_for mid us) e → IsFaultOf (asked_for old (ts ++ us)) e
second_fails old mid ts us e m h =
    let P : List Tree → Type 0 = λ x. IsFaultOf x e in
    subst P (ap (λ x. asked_for x us) m ∙ sym (asked_append old ts us)) h

pub both_asked : (old mid new ts us : List Tree) → mid ≡ asked_for old ts → new ≡ asked_for mid us → new ≡ asked_for old (ts ++ us)
both_asked old mid new ts us a b = b ∙ ap (λ x. asked_for x us) a ∙ sym (asked_append old ts us)

-- what goes on from the table after the second goes on from the one after the first
pub later_too : (mid new us table : List Tree) → new ≡ asked_for mid us → Grows new table → Grows mid table
later_too mid new us table e a =
    grows_more mid new table (let P : List Tree → Type 0 = Grows mid in subst P (sym e) (asked_grows mid us)) a

-- one term
pub number_later : (old new table : List Tree) (t : Tree) (n : ℕ) → new ≡ added old t → n ≡ number_in new t → Grows new table → n ≡ number_in table t
number_later old new table t n e m a =
    let P : List Tree → Type 0 = λ x. has x t ≡ true in
    m ∙ sym (number_stays new a.0 t (subst P (sym e) (added_has old t))) ∙ ap (λ x. number_in x t) (sym a.1)

-- what one request has, in the tables that go on from the table after the next
pub earlier_named : {X : Type 0} (Named : List Tree → X → Type 0) (mid new us : List Tree) (x : X) → new ≡ asked_for mid us
    → ((table : List Tree) → Grows mid table → Named table x) → (table : List Tree) → Grows new table → Named table x
earlier_named Named mid new us x e h table a = h table (later_too mid new us table e a)

-- the link that parts make
pub parts_asked : (make : (path terms : List ℕ) → ChainsOf ℕ → LinkOf ℕ) (path : List ℕ) (old new ts : List Tree) (cs : ChainsOf Tree)
    (parts : Result Parts NumberFault) (result : Result (Link ℕ) NumberFault)
    → Asks old new (ts ++ chains_terms cs)
    (λ t g. (g.path.items ≡ path) × (g.terms.items ≡ map (number_in t) ts) × (plain_chains g.conds.items ≡ map_chains (number_in t) cs)) parts
    → MakesLink make parts result
    → Asks old new (ts ++ chains_terms cs) (λ t x. plain_link x ≡ make path (map (number_in t) ts) (map_chains (number_in t) cs)) result
parts_asked make path old new ts cs (Ok p) (Ok x) a m = (a.0, λ table g. let h = a.1 table g in m ∙ (λ i. make (h.0 i) (h.1 i) (h.2 i)))
parts_asked make path old new ts cs (Ok p) (Err e) a m = absurd m
parts_asked make path old new ts cs (Err f) (Ok x) a m = absurd m
parts_asked make path old new ts cs (Err f) (Err e) a m = subst (IsFaultOf (asked_for old (ts ++ chains_terms cs))) (sym m) a

-- parts whose terms and chains are there fail only for want of memory
pub parts_made : (path : List ℕ) (old mid new ts : List Tree) (cs : ChainsOf Tree) (terms : List ℕ) (conds : List (Chain ℕ)) (result : Result Parts NumberFault)
    → mid ≡ asked_for old ts → ((table : List Tree) → Grows mid table → terms ≡ map (number_in table) ts)
    → new ≡ asked_for mid (chains_terms cs) → ((table : List Tree) → Grows new table → plain_chains conds ≡ map_chains (number_in table) cs)
    → IfOk result (λ p. p.path.items ≡ path) → IfOk result (λ p. p.terms.items ≡ terms) → IfOk result (λ p. p.conds.items ≡ conds)
    → IfErr result (λ e. e ≡ fault.Memory)
    → Asks old new (ts ++ chains_terms cs)
    (λ t g. (g.path.items ≡ path) × (g.terms.items ≡ map (number_in t) ts) × (plain_chains g.conds.items ≡ map_chains (number_in t) cs)) result
parts_made path old mid new ts cs terms conds (Ok p) a f b g x y z e = (
  both_asked old mid new ts (chains_terms cs) a b,
  λ table h. (x, y ∙ f table (later_too mid new (chains_terms cs) table b h), ap plain_chains z ∙ g table h),
)
parts_made path old mid new ts cs terms conds (Err q) a f b g x y z e = subst (IsFaultOf (asked_for old (ts ++ chains_terms cs))) (sym e) tt

-- a link without terms asks for none
pub nothing_asked : (l : LinkOf ℕ) (old new : List Tree) (result : Result (Link ℕ) NumberFault) → new ≡ old → IfOk result (λ x. plain_link x ≡ l)
    → IfErr result (λ e. e ≡ fault.Memory) → Asks old new [] (λ t x. plain_link x ≡ l) result
nothing_asked l old new (Ok x) a h e = (a, λ table g. h)
nothing_asked l old new (Err q) a h e = subst (IsFaultOf old) (sym e) tt
