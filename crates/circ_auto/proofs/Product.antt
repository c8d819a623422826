-- What the graph of pairs of states says of the two automata.
use Rattle.std.specs.Prelude.{◌≡◌, ℕ, ◌<◌, ◌+◌, ◌*◌, ◌/◌, ◌%◌, zero, suc, List, [], ◌∷◌, Bool, true, false, not, length, get_or, Option, Some, None, refl}
use Rattle.std.specs.List.{AllByRecursion}
use Rattle.std.proofs.Common.{ap, sym, subst, ◌∙◌, arith}
use Rattle.std.proofs.lemmas.Nat.{mul-add-lt, div-mul-add, mod-mul-add, div_below, mod_below}
use Rattle.circ_auto.specs.Graph.{Graph, point_after, IsWord, LeadsToGoal, IsClosedGraph, FindsGoal}
use Rattle.circ_auto.specs.Pairs.{one_of, pairs}
use Rattle.circ_auto.specs.Machine.{Machine, states, target, is_accepting, arrives, accepts, IsMachine, Differs, Compares}

pub one_of_same : (c d : Bool) → one_of c d ≡ false → c ≡ d
one_of_same true true e = refl
one_of_same true false e = absurd (cc)
one_of_same false true e = absurd (cc)
one_of_same false false e = refl

pub one_of_differ : (c d : Bool) → one_of c d ≡ true → c ≡ d → ⊥
one_of_differ true true e f = absurd (cc)
one_of_differ true false e f = absurd (cc)
one_of_differ false true e f = absurd (cc)
one_of_differ false false e f = absurd (cc)

pub differ_one_of : (c d : Bool) → (c ≡ d → ⊥) → one_of c d ≡ true
differ_one_of true true f = absurd (f refl)
differ_one_of true false f = refl
differ_one_of false true f = refl
differ_one_of false false f = absurd (f refl)

item_below : (xs : List ℕ) (k i : ℕ) → AllByRecursion (λ s. s < k) xs → i < length xs → get_or xs i 0 < k
item_below [] k i all l = absurd (omega (arith, l))
item_below (x ∷ xs) k zero all l = all.0
item_below (x ∷ xs) k (suc i) all l = item_below xs k i all.1 (omega (arith, l))

-- targets are states
pub target_below : (m : Machine) → IsMachine m → (s x : ℕ) → s < states m → x < length m.letters → target m s x < states m
target_below m ok s x l k = item_below m.targets (states m) (s * length m.letters + x) ok.targets (omega (arith, ok.rows, mul-add-lt s (length m.letters) x (states m) l k))

pub pair_run : (m n : Machine) → IsMachine n → length n.letters ≡ length m.letters → (w : List ℕ) → IsWord (length m.letters) w → (s t : ℕ) → t < states n
    → point_after (pairs m n) (s * states n + t) w ≡ arrives m s w * states n + arrives n t w
pair_run m n ok e [] word s t l = refl
pair_run m n ok e (x ∷ w) word s t l =
    rw (div-mul-add s (states n) t l, mod-mul-add s (states n) t l)
    (pair_run m n ok e w word.1 (target m s x) (target n t x) (target_below n ok t x l (omega (arith, word.0, e))))

pub arrives_below : (n : Machine) → IsMachine n → (w : List ℕ) → IsWord (length n.letters) w → (t : ℕ) → t < states n → arrives n t w < states n
arrives_below n ok [] word t l = l
arrives_below n ok (x ∷ w) word t l = arrives_below n ok w word.1 (target n t x) (target_below n ok t x l word.0)

pub goal_run : (m n : Machine) → IsMachine n → length n.letters ≡ length m.letters → (w : List ℕ) → IsWord (length m.letters) w
    → (pairs m n).goal (point_after (pairs m n) (pairs m n).start w) ≡ one_of (accepts m w) (accepts n w)
goal_run m n ok e w word =
    let below = arrives_below n ok w (subst (λ k. IsWord k w) (sym e) word) n.start ok.start in
    let a = arrives m m.start w in
    let b = arrives n n.start w in
    ap (pairs m n).goal (pair_run m n ok e w word m.start n.start ok.start)
    ∙ ap (λ s. one_of (is_accepting m s) (is_accepting n ((a * states n + b) % states n))) (div-mul-add a (states n) b below)
    ∙ ap (λ t. one_of (is_accepting m a) (is_accepting n t)) (mod-mul-add a (states n) b below)

pub leads_differs : (m n : Machine) → IsMachine n → length n.letters ≡ length m.letters → (w : List ℕ) → LeadsToGoal (pairs m n) w → Differs m n w
leads_differs m n ok e w l = record { word = l.word; differs = one_of_differ (accepts m w) (accepts n w) (sym (goal_run m n ok e w l.word) ∙ l.goal) }

pub differs_leads : (m n : Machine) → IsMachine n → length n.letters ≡ length m.letters → (w : List ℕ) → Differs m n w → LeadsToGoal (pairs m n) w
differs_leads m n ok e w d = record { word = d.word; goal = goal_run m n ok e w d.word ∙ differ_one_of (accepts m w) (accepts n w) d.differs }

-- what the search of the pairs finds is the answer
pub compared : (m n : Machine) → IsMachine n → length n.letters ≡ length m.letters → (o : Option (List ℕ)) → FindsGoal (pairs m n) o → Compares m n o
compared m n ok e None f = λ w word. decide w word (one_of (accepts m w) (accepts n w)) refl
  where
    decide : (w : List ℕ) → IsWord (length m.letters) w → (c : Bool) → one_of (accepts m w) (accepts n w) ≡ c → accepts m w ≡ accepts n w
    decide w word true c = absurd (f w (record { word = word; goal = goal_run m n ok e w word ∙ c }))
    decide w word false c = one_of_same (accepts m w) (accepts n w) c
compared m n ok e (Some v) f = (leads_differs m n ok e v f.0, λ w d. f.1 w (differs_leads m n ok e w d))

pub pairs_closed : (m n : Machine) → IsMachine m → IsMachine n → length n.letters ≡ length m.letters → IsClosedGraph (pairs m n)
pairs_closed m n a b e = record {
  start = omega (arith, mul-add-lt m.start (states n) n.start (states m) a.start b.start);
  step = λ p x l k. below (target m (p / states n) x) (target n (p % states n) x)
      (target_below m a (p / states n) x (div_below p (states n) (states m) some l) k)
      (target_below n b (p % states n) x (mod_below p (states n) some) (omega (arith, k, e)));
}
  where
    some : 0 < states n
    some = omega (arith, b.start)

    below : (s t : ℕ) → s < states m → t < states n → s * states n + t < states m * states n
    below s t l k = omega (arith, mul-add-lt s (states n) t (states m) l k)
