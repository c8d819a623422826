-- Without conditions no link has chains.
use Rattle.std.proofs.Common.{◌≡◌, List, [], refl, sym, subst}
use Rattle.circ_term.specs.Tree.{Tree}
use Rattle.circ_term.specs.Substitution.{Substitution}
use Rattle.circ_theory.specs.Theory.{Theory, Pair, AreConditions}
use Rattle.circ_proof.specs.Plain.{ChainsOf, no_chain, more_chains}
use Rattle.circ_proof.specs.Link.{Setting, ConditionsLead, AllOfChains}
use Rattle.circ_proof.proofs.Members.{nothing}

-- no chains lead for no conditions, and no others do
pub none_lead : (c : Setting) (σ : Substitution) (E : List Pair) (cs : ChainsOf Tree) → E ≡ [] → cs ≡ no_chain → ConditionsLead c σ E cs
none_lead c σ E cs e f =
    let P : List Pair → Type 0 = λ x. ConditionsLead c σ x cs in
    let Q : ChainsOf Tree → Type 0 = λ x. ConditionsLead c σ [] x in
    subst P (sym e) (subst Q (sym f) tt)

pub chains_none : (c : Setting) (σ : Substitution) (E : List Pair) (cs : ChainsOf Tree) → E ≡ [] → ConditionsLead c σ E cs → cs ≡ no_chain
chains_none c σ E no_chain e r = refl
chains_none c σ E (more_chains ls rs cs) e r =
    let P : List Pair → Type 0 = λ x. ConditionsLead c σ x (more_chains ls rs cs) in absurd (subst P e r)

-- what leads for no conditions leads in each setting
pub none_anywhere : (c d : Setting) (σ : Substitution) (E : List Pair) (cs : ChainsOf Tree) → E ≡ [] → ConditionsLead c σ E cs → ConditionsLead d σ E cs
none_anywhere c d σ E cs e r = none_lead d σ E cs e (chains_none c σ E cs e r)

pub none_named : {T : Type 0} (P : T → Type 0) (cs : ChainsOf T) → cs ≡ no_chain → AllOfChains P cs
none_named {T = T} P cs e = let Q : ChainsOf T → Type 0 = AllOfChains P in subst Q (sym e) tt

pub no_condition : (th : Theory) (E : List Pair) → E ≡ [] → AreConditions th E
no_condition th E e = let P : List Pair → Type 0 = AreConditions th in subst P (sym e) (λ p c. nothing p c)
