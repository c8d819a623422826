-- What a search's ending says of the summary.
use Rattle.std.proofs.Common.{◌≡◌, ℕ, Bool, List, [], length, refl, sym, ◌∙◌, ap, subst, true, false, Some, None, Result, nat_lt, if◌then◌else◌}
use Rattle.std.specs.Prelude.{IfOk}
use Rattle.circ_theory.specs.Signature.{Signature}
use Rattle.circ_theory.specs.Theory.{Theory}
use Rattle.circ_theory.specs.WellFormed.{IsWellFormed}
use Rattle.circ_theory.specs.Goal.{Goal}
use Rattle.circ_proof.specs.Proof.{Proof}
use Rattle.circ_proof_text.specs.ProofText.{proof_text}
use Rattle.circ_plain_search.specs.Numbering.{Found, Proved, LongTable, Stuck, Spent, TooBig, TooDeep}
use Rattle.circ_plain_search.specs.PlainSearch.{IsProofOf}
use Rattle.circ_attempt.specs.RewritingSearch.{RewritingSearch}
use Rattle.circ_conditional_search.specs.ConditionalSearch.{CanAllBeSearched}
use Rattle.circ_attempt.specs.Search.{Conduct}
use Rattle.circ_script.specs.ReadsAsScript.{ReadsAsScript}
use Rattle.circ_script.specs.Script.{Script}
use Rattle.circ_script.specs.declared.job.Job.TheVariants.{Prove}
use Rattle.circ_status.specs.Texts.{too_long_text}
use Rattle.circ_read.specs.ReadsAs.{ReadsAs}
use Rattle.circ_files.proofs.FileFaults.{if_ok}
use Rattle.circ_status.specs.declared.status.Status.TheVariants as status
use Rattle.circ_found.specs.Answering.{proved_text, found_ending, SearchEnds}
use Rattle.circ_status.specs.Ending.{Stored, stored_as, Ending, ending, plain_ending}
use Rattle.circ_status.specs.declared.ending.Ending.{Ending as TheEnding}
use Rattle.circ_generate.specs.Chain.{chain_theory, chain_script}
use Rattle.circ_generate.specs.Generating.{greatest_conduct, summary_text, chain_ending, Generates, searched, IsAcceptedText}

-- where nothing is to be stored, the summary's ending is the search's
module _ (sig : Signature) (n : ℕ) where
  abbrev by_size : Proof → Bool → Ending
  by_size p b =
      if b then ending (status.TooLong 3 (length (proof_text p))) (too_long_text 3) None
      else ending status.Ok (proved_text sig p) (Some (stored_as [] (proof_text p)))

  abbrev summary_by : Proof → Bool → Ending
  summary_by p b =
      if b then ending (status.TooLong 3 (length (proof_text p))) (too_long_text 3) None
      else ending status.Ok (summary_text n p) None

  proof_unstored : (p : Proof) (b : Bool) → (by_size p b).stored ≡ None → by_size p b ≡ summary_by p b
  proof_unstored p true e = refl
  proof_unstored p false e = absurd (let never : Some (stored_as [] (proof_text p)) ≡ None = e in cc)

  found_unstored : (f : Found) → (found_ending sig [] f).stored ≡ None → found_ending sig [] f ≡ chain_ending sig n f
  found_unstored (Proved p) e = proof_unstored p (nat_lt 67108864 (length (proof_text p))) e
  found_unstored (LongTable k) e = refl
  found_unstored (Stuck b g s t A) e = refl
  found_unstored (Spent r d s) e = refl
  found_unstored (TooBig k) e = refl
  found_unstored (TooDeep k) e = refl

  pub unstored_ending : (f : Found) (e : Ending) → found_ending sig [] f ≡ e → e.stored ≡ None → e ≡ chain_ending sig n f
  unstored_ending f e is none = sym is ∙ found_unstored f (ap (λ x. x.stored) is ∙ none)

  -- where a text is to be stored, it is that of the proof that was found, whose summary is given
  pub record StoresFound (f : Found) (x : Stored) : Type 0 where
    pub p : Proof
    pub is : f ≡ Proved p
    pub text : x.bytes ≡ proof_text p
    pub ends : chain_ending sig n f ≡ ending status.Ok (summary_text n p) None

  proof_stored : (p : Proof) (b : Bool) (x : Stored) → (by_size p b).stored ≡ Some x
      → (x.bytes ≡ proof_text p) × (summary_by p b ≡ ending status.Ok (summary_text n p) None)
  proof_stored p true x e = absurd (let never : None ≡ Some x = e in cc)
  proof_stored p false x e = (let same : stored_as [] (proof_text p) ≡ x = cc in sym (ap (λ y. y.bytes) same), refl)

  nothing : {A : Type 0} (x : Stored) → None ≡ Some x → A
  nothing x e = absurd (cc)

  found_stored : (f : Found) (x : Stored) → (found_ending sig [] f).stored ≡ Some x → StoresFound f x
  found_stored (Proved p) x e =
      let r = proof_stored p (nat_lt 67108864 (length (proof_text p))) x e in record { p = p; is = refl; text = r.0; ends = r.1 }
  found_stored (LongTable k) x e = nothing x e
  found_stored (Stuck b g s t A) x e = nothing x e
  found_stored (Spent r d s) x e = nothing x e
  found_stored (TooBig k) x e = nothing x e
  found_stored (TooDeep k) x e = nothing x e

  pub stored_ending : (f : Found) (e : Ending) (x : Stored) → found_ending sig [] f ≡ e → e.stored ≡ Some x → StoresFound f x
  stored_ending f e x is some = found_stored f x (ap (λ y. y.stored) is ∙ some)

-- what the search proved, where its text is to be stored
pub record IsChainProof (th : Theory) (n : ℕ) (f : Found) (bytes : List ℕ) : Type 0 where
  pub p : Proof
  pub accepted : IsAcceptedText th bytes p
  pub ends : chain_ending th.signature n f ≡ ending status.Ok (summary_text n p) None

module _ (law : (th : Theory) → IsWellFormed th → (blocks : List (List Goal)) → CanAllBeSearched th blocks → (conduct : Conduct) (p : Proof)
    → RewritingSearch th blocks conduct (Proved p) → IsProofOf th blocks p) (th : Theory) (ok : IsWellFormed th) (sc : Script)
    (searchable : CanAllBeSearched th sc.blocks) (n : ℕ) (e : Ending) (s : SearchEnds th greatest_conduct [] sc.blocks e) where
  chain_proof : (x : Stored) → e.stored ≡ Some x → IsChainProof th n s.found x.bytes
  chain_proof x some =
      let k = stored_ending th.signature n s.found e x s.is some in
      let P : Found → Type 0 = RewritingSearch th sc.blocks greatest_conduct in
      let says = law th ok sc.blocks searchable greatest_conduct k.p (subst P k.is s.search) in
      record { p = k.p; accepted = record { text = k.text; fits = says.fits; accepted = says.accepted }; ends = k.ends }

  -- the text that is to be stored is that of an accepted proof
  pub accepted_text : (x : Stored) (bytes : List ℕ) → e.stored ≡ Some x → bytes ≡ x.bytes → (p : Proof) × IsAcceptedText th bytes p
  accepted_text x bytes some same =
      let c = chain_proof x some in let P : List ℕ → Type 0 = λ b. IsAcceptedText th b c.p in (c.p, subst P (sym same) c.accepted)

  module _ (rt : ReadsAs (chain_theory n) th) (rs : ReadsAsScript th Prove (chain_script n) sc) where
    pub none_generates : e.stored ≡ None → Generates n e
    none_generates none = searched e th sc s.found rt rs s.search (unstored_ending th.signature n s.found e s.is none)

    pub some_generates : {E : Type 0} (r : Result TheEnding E) (x : Stored) (bytes : List ℕ) → e.stored ≡ Some x → bytes ≡ x.bytes
        → ((p : Proof) → IsAcceptedText th bytes p → IfOk r (λ d. plain_ending d ≡ ending status.Ok (summary_text n p) None))
        → IfOk r (λ d. Generates n (plain_ending d))
    some_generates r x bytes some same h =
        let c = chain_proof x some in
        let P : List ℕ → Type 0 = λ b. IsAcceptedText th b c.p in
        if_ok (λ d. plain_ending d ≡ ending status.Ok (summary_text n c.p) None) (λ d. Generates n (plain_ending d)) r (h c.p (subst P (sym same) c.accepted))
        (λ d is. searched (plain_ending d) th sc s.found rt rs s.search (is ∙ sym c.ends))
