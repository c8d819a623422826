-- A proof that the search finds fits the theory and is accepted, with exactly the given goals.
use Rattle.circ_plain_search.proofs.Certificates.{one_each}
use Rattle.circ_plain_search.proofs.Turns.{links_fine}
use Rattle.circ_plain_search.proofs.Runs.{most, half, all_steps, BlocksRun, block_goals}
use Rattle.std.proofs.Common.{◌≡◌, ◌≢◌, ℕ, ◌+◌, ◌≤◌, ◌<◌, ◌^◌, length, Bool, true, false, if◌then◌else◌, List, [], ◌∷◌, ◌++◌, map, flat_map, refl, ap, sym, subst, ◌∙◌, arith, append-nil, length-append}
use Rattle.std.specs.Prelude.{nat_lt}
use Rattle.std.specs.List.{AllByRecursion}
use Rattle.std.proofs.lemmas.List.{length-map}
use Rattle.circ_term.specs.Tree.{Tree}
use Rattle.circ_term.specs.Limits.{IsWithinLimits}
use Rattle.circ_theory.specs.Signature.{IsWellSorted}
use Rattle.circ_theory.specs.Theory.{Theory, Pair, AreConditions}
use Rattle.circ_theory.specs.WellFormed.{IsWellFormed}
use Rattle.circ_theory.specs.Rewriting.{named}
use Rattle.circ_theory.specs.Goal.{Goal}
use Rattle.circ_proof.specs.Goals.{AreSortedGoals}
use Rattle.circ_theory.specs.Fresh.{above_pairs}
use Rattle.circ_theory.proofs.Lists.{all_by}
use Rattle.circ_special.specs.declared.place.Place.{Place}
use Rattle.circ_proof.specs.Plain.{LinkOf, map_link}
use Rattle.circ_proof.specs.Link.{AllOfLinks}
use Rattle.circ_rewrite.specs.Links.{link_of}
use Rattle.circ_proof.specs.Table.{term_limit}
use Rattle.circ_proof.specs.Rules.{state, ProofStep, Simplify, Reduce, Derive, Done, StepsOf, Cases}
use Rattle.circ_proof.specs.Proof.{Proof, AreLinksFor, ProofFor, step_limit}
use Rattle.circ_proof.specs.Accepted.{BlocksDerive, Accepted}
use Rattle.circ_proof.specs.Certified.{due, AreCertified}
use Rattle.circ_proof.proofs.Sorted.{sorted_none, sorted_append}
use Rattle.circ_proof.proofs.Stepping.{Grows, steps_grow}
use Rattle.circ_plain_search.specs.Search.{ProvedBlock, Ending, All_done, Is_stuck, Is_spent, Is_too_big, Is_too_deep, start}
use Rattle.circ_conditional_search.specs.Search.{Manner, Finishes}
use Rattle.circ_plain_search.specs.Numbering.{goal_terms, links_terms, step_terms, block_terms, proof_terms, numbered_links, numbered_block, table_for, Special, needed, Proved, LongTable, proved_or_long, side_terms}
use Rattle.circ_conditional_search.specs.Versions.{versioned_proof, versioned_found}
use Rattle.circ_conditional_search.specs.ConditionalSearch.{ConditionalSearch, CanBeSearched, CanAllBeSearched, IsPairWithin}
use Rattle.circ_plain_search.specs.PlainSearch.{IsProofOf}
use Rattle.circ_plain_search.proofs.Terms.{Fine, FineTerms}
use Rattle.circ_plain_search.proofs.Led.{all_append, all_parts}
use Rattle.circ_conditional_search.proofs.Derived.{FineGoals, goals_sorted, FineCond}
use Rattle.circ_conditional_search.proofs.Runs.{IsOpenStep, EndsDone, Whole}
use Rattle.circ_conditional_search.proofs.Ends.{search_whole}
use Rattle.circ_plain_search.proofs.Tables.{Has, asked_has, asked_fine, IsFineTable, links_named, steps_named}
use Rattle.circ_plain_search.proofs.Naming.{links_all, steps_all}
use Rattle.circ_conditional_search.proofs.Ranges.{AreRanged}
use Rattle.circ_conditional_search.proofs.Steps.{FitsStep, AreWithin, steps_ranged}
use Rattle.circ_conditional_search.proofs.Numbered.{HasGoal, links_for, IsBlockHere, blocks_for, count_for, goals_for, HasPairs}
use Rattle.circ_conditional_search.proofs.Certificates.{IsCertifiedSet, no_set, greatest_certified, certificates_ranged}
use Rattle.circ_theory.proofs.Casing.{contains_first, contains_next}
use Rattle.circ_conditional_search.proofs.Nesting.{AllNestIn}
use Rattle.circ_conditional_search.proofs.Versions.{fits_version}

-- ---- blocks

-- the goals of a block that is given
abbrev pub IsGivenBlock : Theory → List Goal → Type 0
IsGivenBlock th gs = (gs ≢ []) × FineGoals th half gs

given_blocks : (th : Theory) (bs : List ProvedBlock) → AllByRecursion (IsGivenBlock th) (block_goals bs) → AllByRecursion (λ b. IsGivenBlock th b.goals) bs
given_blocks th [] a = tt
given_blocks th (b ∷ bs) a = (a.0, given_blocks th bs a.1)

within_goals : (th : Theory) (gs : List Goal) → FineGoals th half gs → AreWithin gs
within_goals th [] a = tt
within_goals th (g ∷ gs) a = (record { left = a.0.left.within; right = a.0.right.within; few = a.0.few }, within_goals th gs a.1)

have_pairs : (table : List Tree) (ps : List Pair) → AllByRecursion (Has table) (flat_map side_terms ps) → HasPairs table ps
have_pairs table [] a = tt
have_pairs table (p ∷ ps) a = ((a.0, a.1.0), have_pairs table ps a.1.1)

have_goals : (table : List Tree) (gs : List Goal) → AllByRecursion (Has table) (flat_map goal_terms gs) → AllByRecursion (HasGoal table) gs
have_goals table [] a = tt
have_goals table (g ∷ gs) a =
    let p = all_parts (Has table) (flat_map side_terms g.conds) (flat_map goal_terms gs) a.1.1 in
    (record { left = a.0; right = a.1.0; conds = have_pairs table g.conds p.0 }, have_goals table gs p.1)

open_fits : (s : ProofStep Tree) → IsOpenStep s → FitsStep s
open_fits (Simplify c) o = o
open_fits (Reduce w) o = o
open_fits Derive o = tt
open_fits (Cases u) o = tt
open_fits Done o = tt

steps_fit : (b : ProvedBlock) → EndsDone b → AllByRecursion FitsStep b.steps
steps_fit b e =
    let P : List (ProofStep Tree) → Type 0 = AllByRecursion FitsStep in
    subst P (sym e.1) (all_append FitsStep e.0 (Done ∷ []) (all_by IsOpenStep FitsStep e.0 open_fits e.2) (tt, tt))

module _ (th : Theory) (wf : IsWellFormed th) (table : List Tree) where
  sorted_terms : (ts : List Tree) → FineTerms th most ts → AllByRecursion (IsWellSorted th.signature) ts
  sorted_terms ts a = all_by (Fine th most) (IsWellSorted th.signature) ts (λ t f. f.sorted) a

  blocks_here : (G : List Place) (bs : List ProvedBlock) (E : List Goal) → AllByRecursion (Has table) (flat_map block_terms bs)
      → FineTerms th most (flat_map block_terms bs) → AllByRecursion EndsDone bs → AllByRecursion (λ b. IsGivenBlock th b.goals) bs
      → AreSortedGoals th E → length E + all_steps bs < 2 ^ 32 → BlocksRun th G E bs → AllByRecursion (IsBlockHere table th) bs
  blocks_here G [] E h f e g s few r = tt
  blocks_here G (b ∷ bs) E h f e g s few r =
      let has = all_parts (Has table) (block_terms b) (flat_map block_terms bs) h in
      let fine = all_parts (Fine th most) (block_terms b) (flat_map block_terms bs) f in
      let has_parts = all_parts (Has table) (flat_map goal_terms b.goals) (flat_map step_terms b.steps) has.0 in
      let fine_parts = all_parts (Fine th most) (flat_map goal_terms b.goals) (flat_map step_terms b.steps) fine.0 in
      let sorted = goals_sorted th half b.goals g.0.1 in
      let fit = steps_fit b e.0 in
      let run = r.0 in
      let ranged = steps_ranged th wf G b.steps (state E b.goals) (state run.0 []) (s, sorted) (omega (arith, few)) (within_goals th b.goals g.0.1)
      (steps_all (IsWellSorted th.signature) b.steps (sorted_terms (flat_map step_terms b.steps) fine_parts.1)) fit run.1 in
      let fewer = ranged.fewer in
      let long = length-append E b.goals in (
        record {
          some_goal = g.0.0;
          goals = have_goals table b.goals has_parts.0;
          fine = g.0.1;
          fit = fit;
          ranged = ranged.ranged;
          terms = steps_all (Has table) b.steps has_parts.1;
          ended = e.0;
        },
        blocks_here G bs (E ++ b.goals) has.1 fine.1 e.1 g.1 (sorted_append th E b.goals s sorted) (omega (arith, long, fewer, few)) r.1,
      )

-- the steps of the numbered blocks are those that ran
blocks_derive : (th : Theory) (p : Proof) (bs : List ProvedBlock) (E : List Goal) → AllByRecursion (IsBlockHere p.table th) bs → BlocksRun th p.places E bs
    → (dss : List (List Goal)) × BlocksDerive th p E (map (numbered_block p.table) bs) dss
blocks_derive th p [] E h r = ([], tt)
blocks_derive th p (b ∷ bs) E h r =
    let run = r.0 in
    let rest = blocks_derive th p bs (E ++ b.goals) h.1 r.1 in
    let same = steps_named p.table b.steps h.0.terms in
    let grown : Grows E run.0 = steps_grow th p.places b.steps (state E b.goals) (state run.0 []) run.1 in
    let P : List (ProofStep Tree) → Type 0 = λ ss. StepsOf th p.places ss (state E b.goals) (state (E ++ grown.appended) []) in
    let Q : List Goal → Type 0 = λ K. StepsOf th p.places b.steps (state E b.goals) (state K []) in
    (grown.appended ∷ rest.0, (subst P (sym same) (subst Q grown.whole run.1), rest.1))

-- ---- certificates

certificates_named : (table : List Tree) (lss : List (List (LinkOf Tree))) → AllByRecursion (AllOfLinks (Has table)) lss
    → map (map (map_link (named table))) (map (numbered_links table) lss) ≡ lss
certificates_named table [] a = refl
certificates_named table (ls ∷ lss) a =
    ap (λ x. x ∷ map (map (map_link (named table))) (map (numbered_links table) lss)) (links_named table ls a.0)
    ∙ ap (λ x. ls ∷ x) (certificates_named table lss a.1)

certificates_for : (table : List Tree) (lss : List (List (LinkOf Tree))) → AllByRecursion (AllNestIn 8) lss → AllByRecursion AreRanged lss → AllByRecursion (AllOfLinks (Has table)) lss
    → AllByRecursion (AreLinksFor (length table)) (map (numbered_links table) lss)
certificates_for table [] h r a = tt
certificates_for table (ls ∷ lss) h r a = (links_for table ls h.0 r.0 a.0, certificates_for table lss h.1 r.1 a.1)

certificates_all : (P : Tree → Type 0) (lss : List (List (LinkOf Tree))) → AllByRecursion P (flat_map links_terms lss) → AllByRecursion (AllOfLinks P) lss
certificates_all P [] a = tt
certificates_all P (ls ∷ lss) a = let p = all_parts P (links_terms ls) (flat_map links_terms lss) a in (links_all P ls p.0, certificates_all P lss p.1)

certificate_terms : (th : Theory) (lss : List (List (LinkOf Tree))) → AllByRecursion (AllOfLinks (Fine th most)) lss → FineTerms th most (flat_map links_terms lss)
certificate_terms th [] a = tt
certificate_terms th (ls ∷ lss) a =
    all_append (Fine th most) (links_terms ls) (flat_map links_terms lss) (links_fine th most ls a.0) (certificate_terms th lss a.1)

-- ---- the proof

module _ (th : Theory) (wf : IsWellFormed th) (G : List Place) (cs : List (List (LinkOf Tree))) (set : IsCertifiedSet th G cs) (blocks : List (List Goal))
    (some : blocks ≢ []) (given : AllByRecursion (IsGivenBlock th) blocks) (bs : List ProvedBlock) (all : block_goals bs ++ [] ≡ blocks) (run : BlocksRun th G [] bs)
    (ended : AllByRecursion EndsDone bs) (few : all_steps bs ≤ step_limit) (fine : FineTerms th most (flat_map block_terms bs))
    (short : length (table_for cs bs) ≤ term_limit) where
  abbrev table : List Tree
  table = table_for cs bs

  abbrev p : Proof
  p = versioned_proof G cs bs

  goals_are : block_goals bs ≡ blocks
  goals_are = sym (append-nil (block_goals bs)) ∙ all

  some_here : map (numbered_block (table_for cs bs)) bs ≢ []
  some_here e = go bs goals_are e
    where
      go : (xs : List ProvedBlock) → block_goals xs ≡ blocks → map (numbered_block (table_for cs bs)) xs ≢ []
      go [] g x = some (sym g)
      go (b ∷ xs) g x = absurd (cc)

  has : AllByRecursion (Has (table_for cs bs)) (proof_terms bs cs)
  has = asked_has [] (proof_terms bs cs)

  has_parts : AllByRecursion (Has (table_for cs bs)) (flat_map block_terms bs) × AllByRecursion (Has (table_for cs bs)) (flat_map links_terms cs)
  has_parts = all_parts (Has (table_for cs bs)) (flat_map block_terms bs) (flat_map links_terms cs) has

  certificates_there : AllByRecursion (AllOfLinks (Has (table_for cs bs))) cs
  certificates_there = certificates_all (Has (table_for cs bs)) cs has_parts.1

  table_fine : IsFineTable th (table_for cs bs)
  table_fine =
      asked_fine th [] (proof_terms bs cs) (record { entries = tt; fine = tt })
      (all_append (Fine th most) (flat_map block_terms bs) (flat_map links_terms cs) fine (certificate_terms th cs set.terms))

  here : AllByRecursion (IsBlockHere (table_for cs bs) th) bs
  here =
      let P : List (List Goal) → Type 0 = AllByRecursion (IsGivenBlock th) in
      blocks_here th wf (table_for cs bs) G bs [] has_parts.0 fine ended (given_blocks th bs (subst P (sym goals_are) given)) (sorted_none th)
      (omega (arith, few)) run

  pub proof_fits : ProofFor th (versioned_proof G cs bs)
  proof_fits =
      let counted = count_for (table_for cs bs) bs in
      record {
        version = fits_version G cs bs;
        sorted = all_by (Fine th most) (IsWellSorted th.signature) (table_for cs bs) (λ t f. f.sorted) table_fine.fine;
        within = all_by (Fine th most) IsWithinLimits (table_for cs bs) (λ t f. f.within) table_fine.fine;
        entries = table_fine.entries;
        short_table = short;
        places = set.set;
        one_each = length-map cs (numbered_links (table_for cs bs)) ∙ one_each th G (due th G) cs set.certified;
        certificates = certificates_for (table_for cs bs) cs set.nests (certificates_ranged th wf G cs set) certificates_there;
        some_block = some_here;
        blocks = blocks_for (table_for cs bs) th bs here;
        few_steps = omega (arith, counted, few);
      }

  pub proof_accepted : Accepted th (versioned_proof G cs bs)
  proof_accepted =
      let d = blocks_derive th (versioned_proof G cs bs) bs [] here run in
      let P : List (List (LinkOf Tree)) → Type 0 = AreCertified th G (due th G) in
      (d.0, record { admissible = subst P (sym (certificates_named (table_for cs bs) cs certificates_there)) set.certified; blocks = d.1 })

  pub proof_is : IsProofOf th blocks (versioned_proof G cs bs)
  proof_is = record { fits = proof_fits; accepted = proof_accepted; goals = goals_for (table_for cs bs) bs ∙ goals_are }

-- ---- what the search finds

not_longer : (m n : ℕ) → nat_lt m n ≡ false → n ≤ m
not_longer m n e = grind arith

pub same_Proved : (p q : Proof) → Proved p ≡ Proved q → p ≡ q
same_Proved p q e = cc

conds_fine : (th : Theory) (ps : List Pair) → AreConditions th ps → AllByRecursion IsPairWithin ps → above_pairs ps ≤ half
    → AllByRecursion (FineCond th half) ps
conds_fine th [] c w l = tt
conds_fine th (p ∷ ps) c w l =
    let h = c p (contains_first p ps) in (
      record {
        left = record { sorted = h.sorted.left; within = w.0.0; low = omega (arith, l) };
        right = record { sorted = h.sorted.right; within = w.0.1; low = omega (arith, l) };
        same_sort = h.sorted.same_sort;
        visible = h.visible;
      },
      conds_fine th ps (λ q i. c q (contains_next p q ps i)) w.1 (omega (arith, l)),
    )

searchable_fine : (th : Theory) (gs : List Goal) → AllByRecursion (CanBeSearched th) gs → FineGoals th half gs
searchable_fine th [] a = tt
searchable_fine th (g ∷ gs) a =
    let s = a.0.sorted.sorted in
    let low = a.0.numbers in (
      record {
        left = record { sorted = s.left; within = a.0.left_within; low = omega (arith, low) };
        right = record { sorted = s.right; within = a.0.right_within; low = omega (arith, low) };
        same_sort = s.same_sort;
        conds = conds_fine th g.conds a.0.sorted.conds a.0.conds_within (omega (arith, low));
        few = a.0.few_conds;
      },
      searchable_fine th gs a.1,
    )

pub blocks_given : (th : Theory) (bs : List (List Goal)) → AllByRecursion (λ b. b ≢ []) bs → AllByRecursion (λ b. AllByRecursion (CanBeSearched th) b) bs
    → AllByRecursion (IsGivenBlock th) bs
blocks_given th [] n a = tt
blocks_given th (b ∷ bs) n a = ((n.0, searchable_fine th b a.0), blocks_given th bs n.1 a.1)

pub fine_blocks : (th : Theory) (bs : List (List Goal)) → AllByRecursion (IsGivenBlock th) bs → AllByRecursion (FineGoals th half) bs
fine_blocks th [] a = tt
fine_blocks th (b ∷ bs) a = (a.0.1, fine_blocks th bs a.1)

module _ (th : Theory) (wf : IsWellFormed th) (s : Special) (set : IsCertifiedSet th s.places s.certificates) (l : Manner) (b : List Goal) (bs : List (List Goal))
    (given : AllByRecursion (IsGivenBlock th) (b ∷ bs)) (p : Proof) where
  pub whole_found : (found : List ProvedBlock) (d m : ℕ) (x : Bool) → Whole th s.places (b ∷ bs) found [] x m d
      → versioned_found s (All_done found d m x) ≡ Proved p → IsProofOf th (b ∷ bs) p
  whole_found found d m x w e = go x w.run.plain e
    where
      few : all_steps found ≤ step_limit
      few = let c = w.counted in let m = w.small in omega (arith, c, m)

      never : (b ∷ bs) ≢ []
      never e = absurd (cc)

      short_or : (v : Bool) (q : Proof) → nat_lt term_limit (length q.table) ≡ v → (length q.table ≤ term_limit → IsProofOf th (b ∷ bs) q)
          → (if v then LongTable (term_limit + 1) else Proved q) ≡ Proved p → IsProofOf th (b ∷ bs) p
      short_or true q z f y = absurd (cc)
      short_or false q z f y = let P : Proof → Type 0 = IsProofOf th (b ∷ bs) in subst P (same_Proved q p y) (f (not_longer term_limit (length q.table) z))

      go : (v : Bool) → (v ≡ false → BlocksRun th [] [] found) → proved_or_long (versioned_proof (needed v s).places (needed v s).certificates found) ≡ Proved p
          → IsProofOf th (b ∷ bs) p
      go true plain y =
          short_or _ (versioned_proof s.places s.certificates found) refl
          (λ short. proof_is th wf s.places s.certificates set (b ∷ bs) never given found w.all w.run.under w.ended few w.terms short) y
      go false plain y =
          short_or _ (versioned_proof [] [] found) refl
          (λ short. proof_is th wf [] [] (no_set th) (b ∷ bs) never given found w.all (plain refl) w.ended few w.terms short) y

  ended_found : (e : Ending) → Finishes th s.places l (start l.limits (b ∷ bs)) e → versioned_found s e ≡ Proved p → IsProofOf th (b ∷ bs) p
  ended_found (All_done found d m x) r e =
      let fine = fine_blocks th (b ∷ bs) given in
      whole_found found d m x (search_whole th wf s.places l b bs fine.0 fine.1 found d m x r) e
  ended_found (Is_stuck k g t u A) r e = absurd (cc)
  ended_found (Is_spent i j k) r e = absurd (cc)
  ended_found (Is_too_big n) r e = absurd (cc)
  ended_found (Is_too_deep n) r e = absurd (cc)

-- What the search finds to be proved is a proof of the given goals.
pub proved_accepted : (th : Theory) → IsWellFormed th → (blocks : List (List Goal)) → CanAllBeSearched th blocks → (l : Manner) (p : Proof)
    → ConditionalSearch th blocks l (Proved p) → IsProofOf th blocks p
proved_accepted th wf blocks a l p s = go blocks a s
  where
    go : (bs : List (List Goal)) → CanAllBeSearched th bs → ConditionalSearch th bs l (Proved p) → IsProofOf th bs p
    go [] a s = absurd (a.some_block refl)
    go (b ∷ bs) a s =
        ended_found th wf (record { places = s.places; certificates = map (map link_of) s.traces })
        (greatest_certified th wf l.limits.steps s.places s.traces s.greatest) l b bs (blocks_given th (b ∷ bs) a.some_goal a.goals) p s.ending s.run (sym s.is)
