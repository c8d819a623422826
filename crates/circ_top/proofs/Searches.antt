-- How a search ends.
use Rattle.std.proofs.Common.{◌≡◌, ◌≤◌, ℕ, Bool, List, length, refl, sym, ◌∙◌, ap, subst, true, false, Option, Some, None, nat_lt, if◌then◌else◌}
use Rattle.std.proofs.lemmas.Bool.{ltb-false}
use Rattle.circ_theory.specs.Signature.{Signature}
use Rattle.circ_theory.specs.Theory.{Theory}
use Rattle.circ_theory.specs.Goal.{Goal}
use Rattle.circ_proof.specs.Proof.{Proof}
use Rattle.circ_proof_text.specs.ProofText.{proof_text}
use Rattle.circ_plain_search.specs.Numbering.{Found, Proved, LongTable, Stuck, Spent, TooBig, TooDeep}
use Rattle.circ_attempt.specs.RewritingSearch.{RewritingSearch}
use Rattle.circ_attempt.specs.Search.{Conduct}
use Rattle.circ_status.specs.Texts.{too_long_text}
use Rattle.circ_status.specs.declared.status.Status.{Status}
use Rattle.circ_status.specs.declared.status.Status.TheVariants as status
use Rattle.circ_status.specs.Ending.{Stored, stored_as, Ending, ending}
use Rattle.circ_found.specs.Answering.{proved_text, found_ending, SearchEnds}

-- the answers with which a search, a chain or a comparison can end
abbrev pub IsSearchEnd : Status → Type 0
IsSearchEnd status.Ok = Unit {0}
IsSearchEnd (status.TooLong f n) = Unit {0}
IsSearchEnd (status.Unreadable f p c) = Unit {0}
IsSearchEnd (status.Stuck b g) = Unit {0}
IsSearchEnd (status.Spent r d s) = Unit {0}
IsSearchEnd (status.TooBig n) = Unit {0}
IsSearchEnd (status.TooDeep n) = Unit {0}
IsSearchEnd (status.Differ n) = Unit {0}
IsSearchEnd _ = ⊥

-- there is one search of given goals
abbrev pub SearchesOnce : Type 0
SearchesOnce = (th : Theory) (blocks : List (List Goal)) (conduct : Conduct) (a b : Found) → RewritingSearch th blocks conduct a
    → RewritingSearch th blocks conduct b → a ≡ b

-- what is stored goes under this name
abbrev IsNamed : (name : List ℕ) → Option Stored → Type 0
IsNamed name None = Unit {0}
IsNamed name (Some x) = x.name ≡ name

-- where the proof is stored, its text is within the limit, and it is what is reported
record ProofStands (sig : Signature) (name : List ℕ) (p : Proof) (e : Ending) : Type 0 where
  pub short : length (proof_text p) ≤ 67108864
  pub text_is : e.text ≡ proved_text sig p
  pub stored_is : e.stored ≡ Some (stored_as name (proof_text p))

module _ (sig : Signature) (name : List ℕ) where
  abbrev ended_by : Proof → Bool → Ending
  ended_by p b =
      if b then ending (status.TooLong 3 (length (proof_text p))) (too_long_text 3) None
      else ending status.Ok (proved_text sig p) (Some (stored_as name (proof_text p)))

  proof_end : (p : Proof) (b : Bool) → IsSearchEnd (ended_by p b).status × IsNamed name (ended_by p b).stored
  proof_end p true = (tt, tt)
  proof_end p false = (tt, refl)

  pub found_end : (f : Found) → IsSearchEnd (found_ending sig name f).status × IsNamed name (found_ending sig name f).stored
  found_end (Proved p) = proof_end p (nat_lt 67108864 (length (proof_text p)))
  found_end (LongTable n) = (tt, tt)
  found_end (Stuck b g s t A) = (tt, tt)
  found_end (Spent r d s) = (tt, tt)
  found_end (TooBig n) = (tt, tt)
  found_end (TooDeep n) = (tt, tt)

  proof_ok : (p : Proof) (b : Bool) → nat_lt 67108864 (length (proof_text p)) ≡ b → (ended_by p b).status ≡ status.Ok
      → ProofStands sig name p (ended_by p b)
  proof_ok p true e s = absurd (let never : status.TooLong 3 (length (proof_text p)) ≡ status.Ok = s in cc)
  proof_ok p false e s = record { short = ltb-false 67108864 (length (proof_text p)) e; text_is = refl; stored_is = refl }

  found_ok : (f : Found) → (found_ending sig name f).status ≡ status.Ok → (p : Proof) × (f ≡ Proved p) × ProofStands sig name p (found_ending sig name f)
  found_ok (Proved p) s = (p, refl, proof_ok p (nat_lt 67108864 (length (proof_text p))) refl s)
  found_ok (LongTable n) s = absurd (let never : status.TooLong 3 67108865 ≡ status.Ok = s in cc)
  found_ok (Stuck b g u v A) s = absurd (let never : status.Stuck b g ≡ status.Ok = s in cc)
  found_ok (Spent r d n) s = absurd (let never : status.Spent r d n ≡ status.Ok = s in cc)
  found_ok (TooBig n) s = absurd (let never : status.TooBig n ≡ status.Ok = s in cc)
  found_ok (TooDeep n) s = absurd (let never : status.TooDeep n ≡ status.Ok = s in cc)

-- what a search says that ends with 0
pub record IsProved (th : Theory) (conduct : Conduct) (name : List ℕ) (blocks : List (List Goal)) (text : List ℕ) (stored : Option Stored) : Type 0 where
  pub p : Proof
  pub search : RewritingSearch th blocks conduct (Proved p)
  pub short : length (proof_text p) ≤ 67108864
  pub text_is : text ≡ proved_text th.signature p
  pub stored_is : stored ≡ Some (stored_as name (proof_text p))

module _ (th : Theory) (conduct : Conduct) (name : List ℕ) (blocks : List (List Goal)) where
  pub search_end : (s : Status) (text : List ℕ) (stored : Option Stored) → SearchEnds th conduct name blocks (ending s text stored) → IsSearchEnd s
  search_end s text stored e =
      let P : Ending → Type 0 = λ x. IsSearchEnd x.status in subst P e.is (found_end th.signature name e.found).0

  pub search_name : (s : Status) (text : List ℕ) (x : Stored) → SearchEnds th conduct name blocks (ending s text (Some x)) → x.name ≡ name
  search_name s text x e = let P : Ending → Type 0 = λ y. IsNamed name y.stored in subst P e.is (found_end th.signature name e.found).1

  pub search_ok : (text : List ℕ) (stored : Option Stored) → SearchEnds th conduct name blocks (ending status.Ok text stored)
      → IsProved th conduct name blocks text stored
  search_ok text stored e =
      let ok = found_ok th.signature name e.found (ap (λ x. x.status) e.is) in
      let P : Found → Type 0 = RewritingSearch th blocks conduct in
      record {
        p = ok.0;
        search = subst P ok.1 e.search;
        short = ok.2.short;
        text_is = sym (ap (λ x. x.text) e.is) ∙ ok.2.text_is;
        stored_is = sym (ap (λ x. x.stored) e.is) ∙ ok.2.stored_is;
      }

  pub one_ending : SearchesOnce → (d e : Ending) → SearchEnds th conduct name blocks d → SearchEnds th conduct name blocks e → d ≡ e
  one_ending once d e a b = sym a.is ∙ ap (found_ending th.signature name) (once th blocks conduct a.found b.found a.search b.search) ∙ b.is
