-- What is to be kept of terms on the way to a normal form.
use Rattle.std.proofs.Common.{◌≡◌, ℕ, ◌+◌, ◌≤◌, ◌<◌, zero, suc, List, [], ◌∷◌, ◌++◌, length, Option, Some, None, refl, ap, sym, subst, ◌∙◌, arith, length-append}
use Rattle.std.specs.List.{AllByRecursion, slice_get}
use Rattle.std.proofs.lemmas.Option.{same_Some}
use Rattle.circ_term.specs.Tree.{Tree, size_of, depth_of}
use Rattle.circ_rewrite.specs.Replacement.{Replacement, Traced, placed, traced}
use Rattle.circ_rewrite.specs.Standing.{HasSettledBelow}
use Rattle.circ_term.specs.Limits.{Big, Deep}
use Rattle.circ_rewrite.specs.declared.fault.RewriteFault.TheVariants.{Spent, TooBig, TooDeep, Memory}
use Rattle.circ_nodes.specs.Named.{IsNamed}
use Rattle.circ_nodes.proofs.Numbers.{named_below}
use Rattle.circ_chain.specs.Chain.{Chain}
use Rattle.circ_chain.specs.Through.{Readies}
use Rattle.circ_chain.proofs.Chains.{chain_on, chain_weaken, out_on, breaks_on, outgrows_on}
use Rattle.circ_chain.proofs.Roots.{readies_self, readies_weaken, readies_settled, readies_step, root_settled, kept_step}
use Rattle.circ_memo.specs.Keeping.{IsForm}
use Rattle.circ_memo.specs.Settling.{IsWay, IsPassed, ArePassed, IsStepIn, Stops, passed_count}
use Rattle.circ_memo.specs.declared.parts.Bounds.{Bounds}
use Rattle.circ_memo.specs.declared.parts.Entry.{Entry}
use Rattle.circ_memo.specs.declared.parts.Way.{Way}
use Rattle.circ_memo.specs.declared.parts.Step.{Step}
use Rattle.circ_memo.specs.declared.parts.Stop.{Stop}
use Rattle.circ_memo.specs.declared.parts.Stop.TheVariants as stop

module _ (due : Tree → Option Replacement) (nodes : List Tree) where
  -- nothing is due in it
  pub still_form : (u : Tree) (e : Entry) → HasSettledBelow due u → due u ≡ None → IsNamed nodes e.value u → e.count ≡ 0 → IsForm due nodes u e
  still_form u e h d n z = record { value = u; traces = []; there = n; form = record { reduces = (refl, root_settled due u h d); count_is = sym z } }

  pub settled_form : (b : Bounds) (t : Tree) (w : Way) (u : Tree) (e : Entry) → IsWay due nodes b t w u → due u ≡ None
      → e.value ≡ w.ready → e.count ≡ w.count → e.big ≡ w.big → e.deep ≡ w.deep → IsForm due nodes t e
  settled_form b t w u e h d v c big deep = record {
    value = u;
    traces = h.traces;
    there = rw v h.there;
    form = record { reduces = rw (big, deep) (readies_settled due w.big w.deep t h.traces u h.readies d); count_is = h.count ∙ sym c };
  }

  -- a replacement is due at the end of its way, and what is kept of the new term is known
  pub stepped_form : (big deep : ℕ) (t : Tree) (traces : List Traced) (u : Tree) (r : Replacement) (last e : Entry)
      → Readies due big deep t traces u → due u ≡ Some r → IsForm due nodes r.new last
      → e.value ≡ last.value → length traces + 1 + last.count ≡ e.count
      → big ≤ e.big → deep ≤ e.deep → last.big ≤ e.big → last.deep ≤ e.deep → size_of r.new ≤ e.big → depth_of r.new ≤ e.deep
      → IsForm due nodes t e
  stepped_form big deep t traces u r last e h d f v c w1 w2 w3 w4 small shallow =
      let all : List Traced = traces ++ traced (placed [] r) ∷ f.traces in
      record {
        value = f.value;
        traces = all;
        there = rw v f.there;
        form = record {
          reduces =
              kept_step due big deep last.big last.deep e.big e.deep t f.value traces f.traces u r h d f.form.reduces w1 w2 w3 w4 small shallow;
          count_is = omega (arith, length-append traces (traced (placed [] r) ∷ f.traces), f.form.count_is, c);
        };
      }

  module _ (b : Bounds) where
    -- what is kept of the term with normal arguments, and of the term itself
    pub after_form : (t : Tree) (s : Step) (v : Tree) (last e : Entry) → (p : IsPassed due nodes b t s v) → IsForm due nodes v last
        → e.value ≡ last.value → 1 + last.count ≡ e.count → last.big ≤ e.big → last.deep ≤ e.deep → size_of v ≤ e.big → depth_of v ≤ e.deep
        → IsForm due nodes p.ready e
    after_form t s v last e p f v_is c w1 w2 small shallow =
        stepped_form 0 0 p.ready [] p.ready p.replacement last e (readies_self due p.ready p.way.readies.settled) p.is_due
        (subst (λ x. IsForm due nodes x last) (sym p.new) f) v_is (omega (arith, c)) (omega arith) (omega arith) w1 w2
        (omega (arith, small, ap size_of p.new)) (omega (arith, shallow, ap depth_of p.new))

    pub whole_form : (t : Tree) (s : Step) (v : Tree) (last e : Entry) → IsPassed due nodes b t s v → IsForm due nodes v last
        → e.value ≡ last.value → s.way.count + 1 + last.count ≡ e.count → s.way.big ≤ e.big → s.way.deep ≤ e.deep
        → last.big ≤ e.big → last.deep ≤ e.deep → size_of v ≤ e.big → depth_of v ≤ e.deep → IsForm due nodes t e
    whole_form t s v last e p f v_is c w1 w2 w3 w4 small shallow =
        stepped_form s.way.big s.way.deep t p.way.traces p.ready p.replacement last e p.way.readies p.is_due
        (subst (λ x. IsForm due nodes x last) (sym p.new) f) v_is (omega (arith, c, p.way.count)) w1 w2 w3 w4
        (omega (arith, small, ap size_of p.new)) (omega (arith, shallow, ap depth_of p.new))

    pub passed_in : (t : Tree) (s : Step) (v : Tree) → IsPassed due nodes b t s v → IsStepIn nodes s
    passed_in t s v p = (named_below nodes s.here t p.here, named_below nodes s.way.ready p.ready p.way.there, named_below nodes s.next v p.next)

    pub are_passed_in : (t : Tree) (ss : List Step) (u : Tree) → ArePassed due nodes b t ss u → AllByRecursion (IsStepIn nodes) ss
    are_passed_in t [] u h = tt
    are_passed_in t (s ∷ ss) u h = (passed_in t s h.0 h.1, are_passed_in h.0 ss u h.2)

    -- one step more
    pub passed_on : (t : Tree) (ss : List Step) (u : Tree) (s : Step) (v : Tree) → ArePassed due nodes b t ss u → IsPassed due nodes b u s v
        → ArePassed due nodes b t (ss ++ s ∷ []) v
    passed_on t [] u s v h p = (v, subst (λ x. IsPassed due nodes b x s v) (sym h) p, refl)
    passed_on t (r ∷ ss) u s v h p = (h.0, h.1, passed_on h.0 ss u s v h.2 p)

    -- the last step of some
    pub passed_back : (t : Tree) (ss : List Step) (s : Step) (v : Tree) → ArePassed due nodes b t (ss ++ s ∷ []) v
        → (u : Tree) × ArePassed due nodes b t ss u × IsPassed due nodes b u s v
    passed_back t [] s v h = (t, refl, subst (λ x. IsPassed due nodes b t s x) h.2 h.1)
    passed_back t (r ∷ ss) s v h =
        let rest = passed_back h.0 ss s v h.2 in
        (rest.0, (h.0, h.1, rest.1), rest.2)

    -- the steps are a chain
    pub passed_chain : (t : Tree) (ss : List Step) (u : Tree) → ArePassed due nodes b t ss u
        → (traces : List Traced) × Chain due b.big b.deep t traces u × (length traces ≡ passed_count ss)
    passed_chain t [] u h = ([], h, refl)
    passed_chain t (s ∷ ss) u h =
        let p = h.1 in
        let rest = passed_chain h.0 ss u h.2 in
        let wide = readies_weaken due s.way.big s.way.deep b.big b.deep t p.way.traces p.ready p.way.readies p.way.small p.way.shallow in
        let first : Chain due b.big b.deep t (p.way.traces ++ traced (placed [] p.replacement) ∷ []) h.0 =
        subst (λ x. Chain due b.big b.deep t (p.way.traces ++ traced (placed [] p.replacement) ∷ []) x) p.new
        (readies_step due b.big b.deep t p.way.traces p.ready p.replacement wide p.is_due
        (omega (arith, p.small, ap size_of p.new)) (omega (arith, p.shallow, ap depth_of p.new))) in
        let front : List Traced = p.way.traces ++ traced (placed [] p.replacement) ∷ [] in (
          front ++ rest.0,
          chain_on due b.big b.deep front rest.0 t h.0 u first rest.1,
          omega (arith, length-append front rest.0, length-append p.way.traces (traced (placed [] p.replacement) ∷ []), p.way.count, rest.2),
        )

    -- the way to one of the steps, and the way on from there, which is not empty
    pub passed_at : (t : Tree) (ss : List Step) (u : Tree) (i : ℕ) (s : Step) → ArePassed due nodes b t ss u → slice_get ss i ≡ Some s
        → (v : Tree) × IsNamed nodes s.here v × (front : List Traced) × Chain due b.big b.deep t front v × (back : List Traced) × Chain due b.big b.deep v back u
        × (0 < length back) × (length front + length back ≡ passed_count ss)
    passed_at t [] u i s h e = absurd (cc)
    passed_at t (r ∷ ss) u zero s h e =
        let way = passed_chain t (r ∷ ss) u h in
        (t, subst (λ x. IsNamed nodes x.here t) (same_Some r s e) h.1.here, [], refl, way.0, way.1, omega (arith, way.2), omega (arith, way.2))
    passed_at t (r ∷ ss) u (suc i) s h e =
        let first = passed_chain t (r ∷ []) h.0 (h.0, h.1, refl) in
        let rest = passed_at h.0 ss u i s h.2 e in (
          rest.0,
          rest.1,
          first.0 ++ rest.2,
          chain_on due b.big b.deep first.0 rest.2 t h.0 rest.0 first.1 rest.3,
          rest.4,
          rest.5,
          rest.6,
          omega (arith, length-append first.0 rest.2, first.2, rest.7),
        )

pub count_on : (ss : List Step) (s : Step) → passed_count (ss ++ s ∷ []) ≡ passed_count ss + (s.way.count + 1)
count_on [] s = omega arith
count_on (r ∷ ss) s = omega (arith, count_on ss s)

pub all_back : {X : Type 0} (P : X → Type 0) (xs : List X) (x : X) → AllByRecursion P (xs ++ x ∷ []) → AllByRecursion P xs × P x
all_back P [] x h = (tt, h.0)
all_back P (y ∷ xs) x h = let rest = all_back P xs x h.1 in ((h.0, rest.0), rest.1)

-- what stops the work after some steps stops it at the first term
pub stops_on : (due : Tree → Option Replacement) (nodes : List Tree) (b : Bounds) (k n left : ℕ) (ts : List Traced) (t u : Tree) (s : Stop)
    → Chain due b.big b.deep t ts u → Stops due nodes b k left u s → length ts + k ≡ n → Stops due nodes b n left t s
stops_on due nodes b k n left ts t u (stop.Fault Spent) c h e = (out_on due b.big b.deep k n ts t u c h.0 e, h.1)
stops_on due nodes b k n left ts t u (stop.Fault (TooBig m)) c h e = breaks_on due b.big b.deep k n left ts t u (Big m) c h e
stops_on due nodes b k n left ts t u (stop.Fault (TooDeep m)) c h e = breaks_on due b.big b.deep k n left ts t u (Deep m) c h e
stops_on due nodes b k n left ts t u (stop.Fault Memory) c h e = tt
stops_on due nodes b k n left ts t u (stop.Outgrows m) c h e = (h.0, h.1, outgrows_on due b.big b.deep k n left ts t u h.0 c h.2 e)

-- the same after a way
pub way_stops : (due : Tree → Option Replacement) (nodes later : List Tree) (b : Bounds) (k n left : ℕ) (t : Tree) (w : Way) (u : Tree) (s : Stop)
    → IsWay due nodes b t w u → Stops due later b k left u s → k + w.count ≡ n → Stops due later b n left t s
way_stops due nodes later b k n left t w u s h stops e =
    stops_on due later b k n left h.traces t u s (chain_weaken due w.big w.deep b.big b.deep h.traces t u h.small h.shallow h.readies.chain) stops (omega (arith, h.count, e))
