-- Without conditions, and without splits of hidden goals, a search finds what the plain search finds.
use Rattle.std.proofs.Common.{◌≡◌, ◌⊎◌, inl, inr, ℕ, ◌+◌, Bool, true, false, if◌then◌else◌, List, [], ◌∷◌, map, length, refl, ap, sym, ◌∙◌, arith}
use Rattle.std.specs.Prelude.{nat_lt}
use Rattle.std.specs.List.{AllByRecursion, list_all}
use Rattle.circ_term.specs.Tree.{Tree}
use Rattle.circ_theory.specs.Theory.{Theory, Pair, HasNoConditions}
use Rattle.circ_theory.specs.WellFormed.{IsWellFormed}
use Rattle.circ_theory.specs.Goal.{Goal}
use Rattle.circ_special.specs.declared.place.Place.{Place}
use Rattle.circ_proof.specs.Table.{number_in, term_limit}
use Rattle.circ_proof.specs.Plain.{LinkOf, Equation_link, Hypothesis_link, Assumption_link, Content_link, no_chain, more_chains, ChainOf, WhyOf, WhysOf, Same_why, Split_why, no_why, more_whys, map_link, map_chain, map_why, map_whys}
use Rattle.circ_proof.specs.Rules.{ProofStep, Simplify, Reduce, Derive, Cases, Done, map_step}
use Rattle.circ_proof.specs.Proof.{Proof, IsPlainLink, IsPlainChain, IsPlainWhy, ArePlainWhys, IsPlainStep, IsPlainBlock, IsPlain}
use Rattle.circ_rewrite.specs.Links.{link_of}
use Rattle.circ_rewrite.specs.Replacement.{Traced}
use Rattle.circ_plain_search.specs.Greatest.{GreatestSpecialSet}
use Rattle.circ_plain_search.specs.Numbering.{pair_name, goal_name, numbered_links, numbered_block, table_for, proof_with, Special, special, needed, Found, LongTable, Proved, proved_or_long, found_of}
use Rattle.circ_plain_search.specs.PlainSearch.{PlainSearch, AreSearchable}
use Rattle.circ_plain_search.specs.Search.{Limits, Standing, Ending, All_done, Is_stuck, Is_spent, Is_too_big, Is_too_deep, ProvedBlock, Reaches, ends, goes, start}
use Rattle.circ_plain_search.proofs.Accepting.{blocks_given, fine_blocks, proved_accepted}
use Rattle.circ_plain_search.proofs.Ends.{start_opened}
use Rattle.circ_plain_search.proofs.Runs.{Opened}
use Rattle.circ_plain_search.proofs.Turns.{turn_good}
use Rattle.circ_conditional_search.specs.ConditionalSearch.{ConditionalSearch}
use Rattle.circ_conditional_search.specs.Search.{Finishes, stops, goes_on}
use Rattle.circ_conditional_search.specs.Versions.{is_plain_link, is_plain_chain, is_plain_why, are_plain_whys, is_plain_step, has_no_conds, is_plain_block, version_of, versioned_proof, versioned_found}
use Rattle.circ_conditional_search.proofs.BareTurns.{unsplit, turn_same}

-- ---- a proof that is plain passes the tests

all_true : {X Y : Type 0} (p : X → Bool) (P : Y → Type 0) (f : X → Y) → ((x : X) → P (f x) → p x ≡ true) → (xs : List X) → AllByRecursion P (map f xs)
    → list_all p xs ≡ true
all_true p P f h [] a = refl
all_true p P f h (x ∷ xs) a = rw (h x a.0, all_true p P f h xs a.1) refl

module _ (f : Tree → ℕ) where
  link_true : (l : LinkOf Tree) → IsPlainLink (map_link f l) → is_plain_link l ≡ true
  link_true (Equation_link n w q ts no_chain) e = refl
  link_true (Equation_link n w q ts (more_chains l r cs)) e = absurd (cc)
  link_true (Hypothesis_link n w q ts no_chain) e = refl
  link_true (Hypothesis_link n w q ts (more_chains l r cs)) e = absurd (cc)
  link_true (Assumption_link n w q) e = refl
  link_true (Content_link g q t) e = refl

  links_true : (ls : List (LinkOf Tree)) → AllByRecursion IsPlainLink (map (map_link f) ls) → list_all is_plain_link ls ≡ true
  links_true ls a = all_true is_plain_link IsPlainLink (map_link f) link_true ls a

  chain_true : (c : ChainOf Tree) → IsPlainChain (map_chain f c) → is_plain_chain c ≡ true
  chain_true c a = rw (links_true c.left a.0, links_true c.right a.1) refl

  mutual
    why_true : (w : WhyOf Tree) → IsPlainWhy (map_why f w) → is_plain_why w ≡ true
    why_true (Same_why c) a = chain_true c a
    why_true (Split_why c u ws) a = rw (chain_true c a.0, whys_true ws a.1) refl

    whys_true : (ws : WhysOf Tree) → ArePlainWhys (map_whys f ws) → are_plain_whys ws ≡ true
    whys_true no_why a = refl
    whys_true (more_whys w ws) a = rw (why_true w a.0, whys_true ws a.1) refl

  step_true : (s : ProofStep Tree) → IsPlainStep (map_step f s) → is_plain_step s ≡ true
  step_true (Simplify c) a = chain_true c a
  step_true (Reduce w) a = why_true w a
  step_true Derive a = refl
  step_true (Cases u) a = absurd a
  step_true Done a = refl

module _ (table : List Tree) where
  none_true : (ps : List Pair) → map (pair_name table) ps ≡ [] → nat_lt (length ps) 1 ≡ true
  none_true [] e = refl
  none_true (p ∷ ps) e = absurd (cc)

  block_true : (b : ProvedBlock) → IsPlainBlock (numbered_block table b) → is_plain_block b ≡ true
  block_true b a =
      let goals = all_true has_no_conds (λ n. n.conds ≡ []) (goal_name table) (λ g h. none_true g.conds h) b.goals a.names in
      let steps = all_true is_plain_step IsPlainStep (map_step (number_in table)) (step_true (number_in table)) b.steps a.steps in
      rw (goals, steps) refl

version_one : (G : List Place) (cs : List (List (LinkOf Tree))) (bs : List ProvedBlock) → IsPlain (proof_with G cs bs) → version_of bs cs ≡ 1
version_one G cs bs p =
    let blocks = all_true is_plain_block IsPlainBlock (numbered_block (table_for cs bs)) (block_true (table_for cs bs)) bs p.blocks in
    let certificates = all_true (list_all is_plain_link) (λ ls. AllByRecursion IsPlainLink ls) (numbered_links (table_for cs bs))
    (λ ls h. links_true (number_in (table_for cs bs)) ls h) cs p.certificates in
    rw (blocks, certificates) refl

-- ---- what is found

module _ (th : Theory) (wf : IsWellFormed th) (blocks : List (List Goal)) (a : AreSearchable th blocks) (l : Limits) (G : List Place) (tss : List (List Traced))
    (greatest : GreatestSpecialSet th l.steps G tss) where
  abbrev set : Special
  set = special G (map (map link_of) tss)

  plain_of : (p : Proof) → p.version ≡ 1 → (((p.version ≡ 1) × IsPlain p) ⊎ (p.version ≡ 2)) → IsPlain p
  plain_of p e (inl x) = x.1
  plain_of p e (inr y) = absurd (omega (arith, e, y))

  pub found_same : (e : Ending) → Reaches th G l (start l blocks) e → versioned_found set e ≡ found_of set e
  found_same (Is_stuck b g t u A) r = refl
  found_same (Is_spent i j k) r = refl
  found_same (Is_too_big n) r = refl
  found_same (Is_too_deep n) r = refl
  found_same (All_done bs d m x) r = go (nat_lt term_limit (length (table_for cs bs))) refl
    where
      places : List Place
      places = (needed x set).places

      cs : List (List (LinkOf Tree))
      cs = (needed x set).certificates

      p : Proof
      p = proof_with places cs bs

      long_or : Bool → Proof → Found
      long_or b q = if b then LongTable (term_limit + 1) else Proved q

      go : (b : Bool) → nat_lt term_limit (length (table_for cs bs)) ≡ b → proved_or_long (versioned_proof places cs bs) ≡ proved_or_long p
      go true k = ap (λ b. long_or b (versioned_proof places cs bs)) k ∙ sym (ap (λ b. long_or b p) k)
      go false k =
          let found : PlainSearch th blocks l (Proved p) = record {
            places = G;
            traces = tss;
            greatest = greatest;
            ending = All_done bs d m x;
            run = r;
            is = sym (ap (λ b. long_or b p) k);
          } in
          let fits = (proved_accepted th wf blocks a l p found).fits in
          ap (λ v. proved_or_long (record p { version = v })) (version_one places cs bs (plain_of p refl fits.version))

-- ---- how a search ends

module _ (th : Theory) (wf : IsWellFormed th) (none : HasNoConditions th) (G : List Place) (l : Limits) (blocks : List (List Goal)) where
  pub to_finishes : (st : Standing) (e : Ending) → Opened th G blocks st st.queue → Reaches th G l st e → Finishes th G (unsplit l) st e
  to_finishes st e o (ends _ _ t) = stops st e (turn_same th wf none G l blocks st o ∙ t)
  to_finishes st e o (goes _ y _ t r) =
      goes_on st y e (turn_same th wf none G l blocks st o ∙ t) (to_finishes y e (turn_good th wf none G l blocks st y o t) r)

  pub to_reaches : (st : Standing) (e : Ending) → Opened th G blocks st st.queue → Finishes th G (unsplit l) st e → Reaches th G l st e
  to_reaches st e o (stops _ _ t) = ends st e (sym (turn_same th wf none G l blocks st o) ∙ t)
  to_reaches st e o (goes_on _ y _ t r) =
      let u = sym (turn_same th wf none G l blocks st o) ∙ t in
      goes st y e u (to_reaches y e (turn_good th wf none G l blocks st y o u) r)

opened : (th : Theory) (G : List Place) (l : Limits) (blocks : List (List Goal)) → AreSearchable th blocks → Opened th G blocks (start l blocks) (start l blocks).queue
opened th G l [] a = absurd (a.some_block refl)
opened th G l (b ∷ bs) a =
    let fine = fine_blocks th (b ∷ bs) (blocks_given th (b ∷ bs) a.some_goal a.goals) in
    start_opened th G l b bs fine.0 fine.1

module _ (th : Theory) (wf : IsWellFormed th) (blocks : List (List Goal)) (a : AreSearchable th blocks) (l : Limits) (f : Found) where
  pub to_plain : ConditionalSearch th blocks (unsplit l) f → PlainSearch th blocks l f
  to_plain s =
      let run = to_reaches th wf a.no_conditions s.places l blocks (start l blocks) s.ending (opened th s.places l blocks a) s.run in
      record {
        places = s.places;
        traces = s.traces;
        greatest = s.greatest;
        ending = s.ending;
        run = run;
        is = s.is ∙ found_same th wf blocks a l s.places s.traces s.greatest s.ending run;
      }

  pub from_plain : PlainSearch th blocks l f → ConditionalSearch th blocks (unsplit l) f
  from_plain s = record {
    places = s.places;
    traces = s.traces;
    greatest = s.greatest;
    ending = s.ending;
    run = to_finishes th wf a.no_conditions s.places l blocks (start l blocks) s.ending (opened th s.places l blocks a) s.run;
    is = s.is ∙ sym (found_same th wf blocks a l s.places s.traces s.greatest s.ending s.run);
  }
