-- What an accepted proof proves behaves.
use Rattle.std.proofs.Common.{◌≡◌, ◌==◌, List, [], ◌∷◌, ◌++◌, map, Some, ap, sym, subst}
use Rattle.std.specs.List.{slice_get, AllByRecursion, Contains}
use Rattle.std.specs.Option.{option_map_or}
use Rattle.std.proofs.lemmas.Bool.{eq-eqb}
use Rattle.std.proofs.lemmas.List.Elements.{Contains-append_left, Contains-append_right}
use Rattle.circ_term.specs.Tree.{Tree}
use Rattle.circ_theory.specs.Signature.{Operator, IsWellSorted}
use Rattle.circ_theory.specs.Theory.{Theory, Derivative}
use Rattle.circ_theory.specs.WellFormed.{IsWellFormed}
use Rattle.circ_theory.specs.Experiment.{Behaves}
use Rattle.circ_theory.specs.Fresh.{derivatives_of}
use Rattle.circ_theory.specs.Goal.{Goal}
use Rattle.circ_special.specs.declared.place.Place.{Place}
use Rattle.circ_special.specs.Special.{IsPlace}
use Rattle.circ_proof.specs.Plain.{LinkOf}
use Rattle.circ_proof.specs.Link.{AllOfLinks}
use Rattle.circ_proof.specs.Certified.{derivatives_at, due, AreCertified}
use Rattle.circ_proof.specs.Proof.{Block, Proof, ProofFor}
use Rattle.circ_proof.specs.Accepted.{certificates_of, Admissible, Derives}
use Rattle.circ_proof.proofs.Members.{nothing, pick, all_of, in_map, in_filter}
use Rattle.circ_soundness.proofs.Placing.{no_hypotheses, HasCertificate, IsCertifiedSet, places_agree}
use Rattle.circ_soundness.proofs.Running.{levels_behave}
use Rattle.circ_soundness.proofs.Resolving.{certificates_sorted}
use Rattle.circ_soundness.proofs.Blocks.{BlocksAgree, blocks_agree}

-- ---- certificates

-- what is due for a place and a derivative of its result sort
is_due : (th : Theory) (gs : List Place) (g : Place) (o : Operator) (d : Derivative) → Contains gs g → slice_get th.signature.ops g.op ≡ Some o
    → Contains th.derivatives d → d.hole ≡ o.result → Contains (due th gs) (g, d)
is_due th [] g o d c e l h = nothing g c
is_due th (x ∷ xs) g o d c e l h =
    let here : List Derivative = derivatives_of th o.result in
    let listed : Contains here d = in_filter (λ z. z.hole == o.result) th.derivatives d (eq-eqb d.hole o.result h) l in
    let own : List (Place × Derivative) = map (λ z. (x, z)) (derivatives_at th x) in
    let P : Place → Type 0 = λ y. slice_get th.signature.ops y.op ≡ Some o → Contains (own ++ due th xs) (y, d) in
    let Q : List Derivative → Type 0 = λ ds. Contains ds d in
    pick P x g xs
    (λ k. Contains-append_left own (due th xs) (x, d)
    (in_map (λ z. (x, z)) (derivatives_at th x) d (subst Q (sym (ap (λ y. option_map_or (λ q. derivatives_of th q.result) y []) k)) listed)))
    (λ y k. Contains-append_right own (due th xs) (g, d) (is_due th xs g o d y k l h)) c e

certificate_of : (th : Theory) (G : List Place) (xs : List (Place × Derivative)) (lss : List (List (LinkOf Tree)))
    → AllByRecursion (AllOfLinks (IsWellSorted th.signature)) lss → AreCertified th G xs lss → (x : Place × Derivative) → Contains xs x
    → HasCertificate th G x.0 x.1
certificate_of th G [] lss f a x c = nothing x c
certificate_of th G (y ∷ ys) [] f a x c = absurd a
certificate_of th G (y ∷ ys) (ls ∷ lss) f a x c =
    let P : Place × Derivative → Type 0 = λ z. HasCertificate th G z.0 z.1 in
    pick P y x ys (record { links = ls; sorted = f.0; certified = a.0 }) (λ d. certificate_of th G ys lss f.1 a.1 x d) c

certified_set : (th : Theory) → IsWellFormed th → (p : Proof) → ProofFor th p → Admissible th p → IsCertifiedSet th p.places
certified_set th ok p f a = record {
  well_formed = ok;
  places = λ g c. all_of (IsPlace th) p.places g f.places.places c;
  certified = λ g o d c e l h.
      let sorted = certificates_sorted th.signature p.table f.sorted p.certificates f.certificates in
      certificate_of th p.places (due th p.places) (certificates_of p) sorted a (g, d) (is_due th p.places g o d c e l h);
}

-- ---- all blocks

proof_agrees : (th : Theory) → IsWellFormed th → (p : Proof) → ProofFor th p → (dss : List (List Goal)) → Derives th p dss → BlocksAgree th p.blocks dss
proof_agrees th ok p f dss d =
    let places = places_agree th p.places (certified_set th ok p f d.admissible) in
    blocks_agree th p ok f.sorted places [] (no_hypotheses th) p.blocks f.blocks dss d.blocks

-- each goal of each block behaves
pub goals_behave : (th : Theory) → IsWellFormed th → (p : Proof) → ProofFor th p → (dss : List (List Goal)) → Derives th p dss
    → (b : Block) → Contains p.blocks b → (g : Goal) → Contains b.goals g → Behaves th g
goals_behave th ok p f dss d b c g e = levels_behave th g ((proof_agrees th ok p f dss d).goals b c g e)

-- each hypothesis that a block derived behaves
pub derived_behave : (th : Theory) → IsWellFormed th → (p : Proof) → ProofFor th p → (dss : List (List Goal)) → Derives th p dss
    → (ds : List Goal) → Contains dss ds → (g : Goal) → Contains ds g → Behaves th g
derived_behave th ok p f dss d ds c g e = levels_behave th g ((proof_agrees th ok p f dss d).derived ds c g e)
