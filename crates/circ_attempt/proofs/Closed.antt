-- The chain of an attempt leads both sides to one term.
use Rattle.std.proofs.Common.{◌≡◌, ℕ, zero, suc, ◌+◌, ◌≤◌, ◌-◌, Bool, true, false, if◌then◌else◌, List, [], ◌∷◌, ◌++◌, map, Option, Some, None, Result, Ok, Err, refl, ap, sym, subst}
use Rattle.std.specs.List.{AllByRecursion}
use Rattle.std.proofs.lemmas.Option.{same_Some}
use Rattle.circ_term.specs.Tree.{Tree}
use Rattle.circ_theory.specs.Theory.{Theory, Pair}
use Rattle.circ_theory.specs.WellFormed.{IsWellFormed}
use Rattle.circ_theory.specs.Goal.{Goal}
use Rattle.circ_special.specs.declared.place.Place.{Place}
use Rattle.circ_proof.specs.Link.{Setting, setting}
use Rattle.circ_proof.specs.Plain.{ChainOf}
use Rattle.circ_rewrite.specs.Links.{link_of, IsRuleOf}
use Rattle.circ_rewrite.specs.Norm.{Normalised}
use Rattle.circ_rewrite.specs.declared.parts.Rule.{Rule}
use Rattle.circ_conditional_norm.specs.Norm.{conditional_norm}
use Rattle.circ_conditional_norm.specs.Work.{Work, Made, Out, Past, normal_then}
use Rattle.circ_conditional_norm.proofs.Linked.{IsLinking}
use Rattle.circ_conditional_norm.proofs.Working.{found_normal}
use Rattle.circ_plain_search.specs.BlockRules.{block_rules}
use Rattle.circ_plain_search.specs.Joining.{Stop, use_link}
use Rattle.circ_plain_search.specs.Search.{Sides, sides_with, chain_with, chained, has_links, no_links}
use Rattle.circ_plain_search.proofs.Rules.{BeginsWith}
use Rattle.circ_plain_search.proofs.Terms.{Fine}
use Rattle.circ_conditional_search.specs.Joining.{Swept, work_then}
use Rattle.circ_conditional_search.specs.Search.{condition_normaliser, pass_chain}
use Rattle.circ_conditional_search.proofs.Derived.{FineGoals, goals_sorted}
use Rattle.circ_conditional_search.proofs.Led.{Led, led_none, led_append}
use Rattle.circ_conditional_search.proofs.Nesting.{IsNesting}
use Rattle.circ_conditional_search.proofs.Normals.{IsAssumption, IsFining, normal_form_led}
use Rattle.circ_content_join.specs.Joining.{joined_by_content}
use Rattle.circ_content_join.specs.Moves.{Move, move_link, make_all}
use Rattle.circ_content_join.proofs.Joins.{joined_leads}
use Rattle.circ_attempt.specs.Attempt.{Stood, has_stood, round_limit, attempt_limit, both_normal, after_pass, after_normal, unless_stopped, join_chain, Rounds, join_or, outcome, derived_rules, attempt_taker, normal_round, rounds, attempt}
use Rattle.circ_attempt.specs.Passes.{both_swept}
use Rattle.circ_attempt.specs.Rules.{Taker, lemmas_of}
use Rattle.circ_attempt.proofs.Parts.{made_then, same_made}
use Rattle.circ_attempt.proofs.Sweeping.{IsTaking, BothLed, both_led}
use Rattle.circ_attempt.proofs.Taking.{attempt_listed, rules_take}

-- The chain has led from s and t to the sides.
record LedTo (c : Setting) (m : ℕ) (s t : Tree) (x : Sides) : Type 0 where
  left : Led c m x.chain.left s x.left
  right : Led c m x.chain.right t x.right

-- The chain leads from s and t to one term.
pub record Closes (c : Setting) (m : ℕ) (s t : Tree) (d : ChainOf Tree) : Type 0 where
  pub last : Tree
  pub left : Led c m d.left s last
  pub right : Led c m d.right t last

not_stopped : (r : Result Tree Stop) (c d : ChainOf Tree) → unless_stopped r c ≡ Some d → (u : Tree) × (r ≡ Ok u) × (c ≡ d)
not_stopped (Ok u) c d e = (u, refl, same_Some c d e)
not_stopped (Err x) c d e = absurd (cc)

has_come : (n : ℕ) (w : Work (Option (ChainOf Tree))) (d : ChainOf Tree) (l : ℕ) → outcome n w ≡ Made (Some d) l → (j : ℕ) × (w ≡ Made (Some d) j)
has_come n (Made o k) d l e = (k, ap (λ x. Made x k) (same_made o (Some d) (n + k) l e))
has_come zero Out d l e = absurd (cc)
has_come (suc n) Out d l e = absurd (cc)
has_come n (Past x k) d l e = absurd (cc)

module _ (th : Theory) (wf : IsWellFormed th) (m : ℕ) (one : 1 ≤ m) (G : List Place) (E H : List Goal) (bs : List Bool) (A : List Pair)
    (rules : AllByRecursion (IsRuleOf th H) (block_rules th E)) (assumed : AllByRecursion (IsAssumption th m) A) (fine : FineGoals th m H)
    (begins : BeginsWith H E) (links : IsLinking (setting th G H A) (condition_normaliser th E A))
    (fining : IsFining th m (condition_normaliser th E A)) (nest : IsNesting 7 (condition_normaliser th E A)) where
  abbrev c : Setting
  c = setting th G H A

  takes : IsTaking c m (goals_sorted th m H fine) (attempt_taker th G E H bs A)
  takes = rules_take c m fine (condition_normaliser th E A) links fining nest (lemmas_of th 0 E ++ derived_rules E H bs) (attempt_listed th H E bs begins)

  -- both sides, normalised
  normal_led : (s t : Tree) (x y : Sides) (k l : ℕ) → LedTo c m s t x → both_normal th (block_rules th E) A x.left x.right k ≡ Made y l → LedTo c m s t (after_normal x y)
  normal_led s t x y k l h e =
      let R : List Rule = block_rules th E in
      let N : ℕ → Tree → Normalised = λ k t. conditional_norm 0 th.signature R A k t in
      let p = found_normal (N k x.left) (λ a ts i. normal_then (N i x.right) (λ b us j. Made (sides_with a b (chain_with (map link_of ts) (map link_of us)) j) j)) y l e in
      let q = found_normal (N p.2 x.right) (λ b us j. Made (sides_with p.0 b (chain_with (map link_of p.1) (map link_of us)) j) j) y l p.4 in
      let n : Sides = sides_with p.0 q.0 (chain_with (map link_of p.1) (map link_of q.1)) q.2 in
      let a = normal_form_led th wf m one H R rules A assumed G x.left p.0 p.1 k p.2 h.left.fine p.3 in
      let b = normal_form_led th wf m one H R rules A assumed G x.right q.0 q.1 p.2 q.2 h.right.fine q.3 in
      subst (λ z. LedTo c m s t (after_normal x z)) (same_made n y q.2 l q.4) (record {
        left = led_append c m x.chain.left (map link_of p.1) s x.left p.0 h.left a;
        right = led_append c m x.chain.right (map link_of q.1) t x.right q.0 h.right b;
      })

  -- the sides Join
  join_closes : (s t : Tree) (x : Sides) (vs : List Move) (d : ChainOf Tree) (k l : ℕ) → LedTo c m s t x
      → joined_by_content (condition_normaliser th E A) th.signature G H [] x.left x.right k ≡ Made (Some vs) l → join_chain x.left x.chain vs ≡ Some d → Closes c m s t d
  join_closes s t x vs d k l h e z =
      let r = not_stopped (make_all x.left vs) (chained x.chain (chain_with (map move_link vs) [])) d z in
      let j = joined_leads c m one wf fine (condition_normaliser th E A) links fining nest x.left x.right [] vs x.left r.0 k l h.left.fine h.left.fine h.right.fine refl tt e r.1 in
      let same : r.0 ≡ x.right = same_Some r.0 x.right (sym j.made) in
      let P : Tree → Type 0 = λ v. Led c m (x.chain.right ++ []) t v in
      subst (Closes c m s t) r.2 (record {
        last = r.0;
        left = led_append c m x.chain.left (map move_link vs) s x.left r.0 h.left j.led;
        right = subst P (sym same) (led_append c m x.chain.right [] t x.right x.right h.right (led_none c m x.right h.right.fine));
      })

  abbrev Again : Rounds → Type 0
  Again again = (s t : Tree) (ps : Stood) (x : Sides) (d : ChainOf Tree) (k l : ℕ) → LedTo c m s t x → again ps x k ≡ Made (Some d) l → Closes c m s t d

  or_closes : (again : Rounds) → Again again → (s t : Tree) (ps : Stood) (y : Sides) (d : ChainOf Tree) (l : ℕ) → LedTo c m s t y → (i : ℕ) (o : Option (List Move)) (j : ℕ)
      → joined_by_content (condition_normaliser th E A) th.signature G H [] y.left y.right i ≡ Made o j → join_or ps y again o j ≡ Made (Some d) l → Closes c m s t d
  or_closes again law s t ps y d l led i (Some vs) j z w = join_closes s t y vs d i j led z (same_made (join_chain y.left y.chain vs) (Some d) j l w)
  or_closes again law s t ps y d l led i None j z w = go (has_stood y.left y.right ps) w
    where
      go : (v : Bool) → (if v then Made None j else again ((y.left, y.right) ∷ ps) y j) ≡ Made (Some d) l → Closes c m s t d
      go true u = absurd (cc)
      go false u = law s t ((y.left, y.right) ∷ ps) y d j l led u

  round_closes : (again : Rounds) → Again again → Again (normal_round th G E H bs A again)
  round_closes again law s t ps x d k l h e =
      let J = λ (y : Sides) (l : ℕ). joined_by_content (condition_normaliser th E A) th.signature G H [] y.left y.right l in
      let p = made_then (both_normal th (block_rules th E) A x.left x.right k) (λ y l. work_then (J y l) (join_or ps (after_normal x y) again)) (Some d) l e in
      let led = normal_led s t x p.0 k p.1 h p.2 in
      let q = made_then (J p.0 p.1) (join_or ps (after_normal x p.0) again) (Some d) l p.3 in
      or_closes again law s t ps (after_normal x p.0) d l led p.1 q.0 q.1 q.2 q.3

  rounds_close : (n : ℕ) → Again (rounds th G E H bs A n)
  rounds_close zero s t ps x d k l h e = absurd (cc)
  rounds_close (suc n) s t ps x d k l h e =
      let taker : Taker = attempt_taker th G E H bs A in
      let p = made_then (both_swept taker G x.left x.right k)
      (λ w j. if has_links (pass_chain w) then normal_round th G E H bs A (rounds th G E H bs A n) ps (after_pass x w j) j else Made None j) (Some d) l e in
      let b = both_led c m (goals_sorted th m H fine) taker takes x.left x.right p.0 k p.1 h.left.fine h.right.fine p.2 in
      go p.0 p.1 b (has_links (pass_chain p.0)) p.3 (round_closes (rounds th G E H bs A n) (rounds_close n))
    where
      go : (w : Swept × Swept) (j : ℕ) → BothLed c m (goals_sorted th m H fine) (attempt_taker th G E H bs A) takes x.left x.right w → (v : Bool)
          → (if v then normal_round th G E H bs A (rounds th G E H bs A n) ps (after_pass x w j) j else Made None j) ≡ Made (Some d) l
          → Again (normal_round th G E H bs A (rounds th G E H bs A n)) → Closes c m s t d
      go w j b false z ih = absurd (cc)
      go w j b true z ih =
          ih s t ps (after_pass x w j) d j l
          (record {
            left = led_append c m x.chain.left (map use_link w.0.uses) s x.left w.0.whole h.left b.left;
            right = led_append c m x.chain.right (map use_link w.1.uses) t x.right w.1.whole h.right b.right;
          }) z

  pub attempt_closes : (s t : Tree) (d : ChainOf Tree) (k l : ℕ) → Fine th m s → Fine th m t → attempt th G E H bs A s t k ≡ Made (Some d) l → Closes c m s t d
  attempt_closes s t d k l fs ft e =
      let x : Sides = sides_with s t no_links k in
      let b : ℕ = k - (k - attempt_limit) in
      let it = has_come (k - attempt_limit) (rounds th G E H bs A round_limit ((s, t) ∷ []) x b) d l e in
      rounds_close round_limit s t ((s, t) ∷ []) x d b it.0 (record { left = led_none c m s fs; right = led_none c m t ft }) it.1
