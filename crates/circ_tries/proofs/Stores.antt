-- A store stays right when terms are added, and what is due with tries around.
use Rattle.std.proofs.Common.{◌≡◌, ℕ, ◌-◌, ◌≤◌, List, [], ◌∷◌, ◌++◌, map, None, refl, ap, sym, ◌∙◌, arith}
use Rattle.circ_term.specs.Tree.{Tree}
use Rattle.circ_term.specs.Growing.{Grows}
use Rattle.circ_term.specs.Limits.{node_limit, depth_limit}
use Rattle.circ_rewrite.specs.Norm.{Normal_form}
use Rattle.circ_rewrite.specs.Plain.{Faults, plain_traces}
use Rattle.circ_rewrite.specs.Replacement.{Traced}
use Rattle.circ_rewrite.specs.declared.fault.RewriteFault.{RewriteFault}
use Rattle.circ_chain.specs.Chain.{under}
use Rattle.circ_nodes.specs.Built.{AreBuilt}
use Rattle.circ_nodes.proofs.Building.{built_later}
use Rattle.circ_nodes.proofs.Numbers.{grows_self, grows_more}
use Rattle.circ_due.specs.Chosen.{due_by}
use Rattle.circ_due.specs.declared.means.Means.{Means}
use Rattle.circ_due.proofs.Later.{ready_later}
use Rattle.circ_conditional_norm.specs.Norm.{inner_norm, try_limit}
use Rattle.circ_conditional_norm.specs.Work.{Made}
use Rattle.circ_conditional_norm.specs.Within.{run_in, whole_form}
use Rattle.circ_conditional_norm.proofs.Falling.{due_leaves, inner_falls}
use Rattle.circ_conditional_norm.proofs.Within.{whole_run}
use Rattle.circ_tries.specs.declared.parts.Course.{Course}
use Rattle.circ_tries.specs.declared.parts.Room.{Room}
use Rattle.circ_tries.specs.declared.store.Store.{Store}
use Rattle.circ_tries.specs.Store.{IsStore, AreStill, IsReadyToWork, HasWorked}
use Rattle.circ_tries.specs.Trying.{due_in, norm_by}
use Rattle.circ_tries.specs.Turning.{plain_room, IsFallingDue, FaultsAt, SettlesAt}
use Rattle.circ_tries.proofs.Faulting.{whole_faults}
use Rattle.circ_tries.proofs.Still.{right_later}
use Rattle.circ_tries.proofs.Tried.{nothing_due}

pub store_later : (m : Means) (a b : Store) → Grows a.nodes b.nodes → b.still.items ≡ a.still.items → b.terms ≡ a.terms → IsStore m a → IsStore m b
store_later m a b g e f h = record {
  ready = ready_later a.nodes b.nodes m g h.ready;
  right = rw e (right_later (due_by m) a.nodes b.nodes a.still.items g h.right);
  built = rw f (built_later a.nodes b.nodes a.terms g h.built);
}

-- a replacement was made, and terms were built
pub store_made : (m : Means) (a b : Store) → Grows a.nodes b.nodes → b.still.items ≡ a.still.items → AreBuilt b.nodes b.terms → IsStore m a → IsStore m b
store_made m a b g e k h = record {
  ready = ready_later a.nodes b.nodes m g h.ready;
  right = rw e (right_later (due_by m) a.nodes b.nodes a.still.items g h.right);
  built = k;
}

-- more is known, and no terms were added
pub store_kept : (m : Means) (a b : Store) → b.nodes ≡ a.nodes → b.terms ≡ a.terms → AreStill (due_by m) b.nodes b.still.items → IsStore m a → IsStore m b
store_kept m a b e f k h = record { ready = rw e h.ready; right = k; built = rw (e, f) h.built }

-- ---- work that has gone on

pub worked_self : (m : Means) (s : Store) (k : ℕ) → IsStore m s → HasWorked m s s k k
worked_self m s k h = record { store = h; grows = grows_self s.nodes; less = omega arith }

pub worked_on : (m : Means) (a b c : Store) (k l n : ℕ) → HasWorked m a b k l → HasWorked m b c l n → HasWorked m a c k n
worked_on m a b c k l n g h =
    let x = g.less in
    let y = h.less in
    record { store = h.store; grows = grows_more a.nodes b.nodes c.nodes g.grows h.grows; less = omega (arith, x, y) }

-- terms were added first
pub worked_grown : (m : Means) (a b c : Store) (k l : ℕ) → Grows a.nodes b.nodes → HasWorked m b c k l → HasWorked m a c k l
worked_grown m a b c k l g w = record { store = w.store; grows = grows_more a.nodes b.nodes c.nodes g w.grows; less = w.less }

-- or last
pub worked_later : (m : Means) (a b c : Store) (k l : ℕ) → HasWorked m a b k l → Grows b.nodes c.nodes → c.still.items ≡ b.still.items → c.terms ≡ b.terms → HasWorked m a c k l
worked_later m a b c k l w g e f = record {
  store = store_later m b c g e f w.store;
  grows = grows_more a.nodes b.nodes c.nodes w.grows g;
  less = w.less;
}

pub worked_made : (m : Means) (a b c : Store) (k l n : ℕ) → HasWorked m a b k l → Grows b.nodes c.nodes → c.still.items ≡ b.still.items → AreBuilt c.nodes c.terms → n ≤ l
    → HasWorked m a c k n
worked_made m a b c k l n w g e f h =
    let x = w.less in
    record { store = store_made m b c g e f w.store; grows = grows_more a.nodes b.nodes c.nodes w.grows g; less = omega (arith, x, h) }

pub worked_kept : (m : Means) (a b c : Store) (k l : ℕ) → HasWorked m a b k l → c.nodes ≡ b.nodes → c.terms ≡ b.terms → AreStill (due_by m) c.nodes c.still.items → HasWorked m a c k l
worked_kept m a b c k l w e f h = record { store = store_kept m b c e f h w.store; grows = rw e w.grows; less = w.less }

-- and may go on further
pub ready_on : (m : Means) (a b : Store) (tries k l : ℕ) → IsReadyToWork m a tries k → HasWorked m a b k l → IsReadyToWork m b tries l
ready_on m a b tries k l r w =
    let x = r.fits in
    let y = w.less in
    record { store = w.store; tries = r.tries; fits = omega (arith, x, y) }

pub ready_grown : (m : Means) (a b : Store) (tries k : ℕ) → Grows a.nodes b.nodes → b.still.items ≡ a.still.items → b.terms ≡ a.terms → IsReadyToWork m a tries k → IsReadyToWork m b tries k
ready_grown m a b tries k g e f r = record { store = store_later m a b g e f r.store; tries = r.tries; fits = r.fits }

-- ---- what is due with tries around

pub due_falls : (m : Means) (tries : ℕ) → IsFallingDue (due_in m tries)
due_falls m tries =
    due_leaves (inner_norm (try_limit - tries) m.theory.now.signature m.rules.items m.assumptions) (inner_falls (try_limit - tries) m.theory.now.signature m.rules.items m.assumptions)
    m.theory.now.signature m.rules.items m.assumptions

pub nothing_in : (m : Means) (tries k : ℕ) (t : Tree) → due_by m t ≡ None → due_in m tries k t ≡ Made None k
nothing_in m tries k t e =
    nothing_due (inner_norm (try_limit - tries) m.theory.now.signature m.rules.items m.assumptions) m.theory.now.signature m.rules.items m.assumptions k t e

-- ---- a whole term

abbrev pub IsWhole : Room → Type 0
IsWhole b = (b.big ≡ node_limit) × (b.deep ≡ depth_limit)

module _ (m : Means) (tries : ℕ) (b : Room) (w : IsWhole b) where
  whole_is : (t : Tree) (k : ℕ) → whole_form (run_in (due_in m tries) (plain_room b) k [] t [] k) ≡ norm_by m tries k t
  whole_is t k =
      ap (λ r. whole_form (run_in (due_in m tries) r k [] t [] k)) (λ i. record { big = w.0 i; deep = w.1 i })
      ∙ whole_run (due_in m tries) (due_falls m tries) k [] t [] k

  pub whole_faults_by : (nodes : List Tree) (t : Tree) (k l : ℕ) (e : RewriteFault) → FaultsAt (due_in m tries) b nodes [] t k l e → Faults e l (norm_by m tries k t)
  whole_faults_by nodes t k l e h = whole_faults (due_in m tries) b nodes t k l e (whole_is t k) h

  pub whole_settles : (nodes : List Tree) (path : List ℕ) (x y : Course) (t : Tree) (k l n : ℕ) → path ≡ [] → x.traces.items ≡ []
      → (h : SettlesAt (due_in m tries) b nodes path x y [] t k l n) → norm_by m tries k t ≡ Normal_form h.0 (plain_traces y.traces.items) l
  whole_settles nodes path x y t k l n p e h =
      sym (whole_is t k) ∙ ap whole_form (h.3 [])
      ∙ ap (λ ts. Normal_form h.0 ts l) (sym (h.4.0 ∙ ap (λ q. plain_traces x.traces.items ++ map (under q) h.1) p ∙ rw e (under_nothing h.1)))
    where
      under_nothing : (us : List Traced) → map (under []) us ≡ us
      under_nothing [] = refl
      under_nothing (u ∷ us) = ap (λ y. u ∷ y) (under_nothing us)
