-- Listing the traces that are kept.
use Rattle.std.proofs.Common.{◌≡◌, ℕ, ◌+◌, ◌*◌, ◌≤◌, ◌<◌, ◌⊎◌, inl, inr, List, [], ◌∷◌, length, Option, Some, refl, ap, sym, subst, ◌∙◌, arith}
use Rattle.std.specs.List.{slice_get}
use Rattle.circ_term.specs.Tree.{Tree, Trees, App, none, more, list_of, depth_of}
use Rattle.circ_rewrite.specs.Replacement.{Replacement, Traced}
use Rattle.circ_nodes.specs.Named.{IsNamed, AreNamed, IsOnce}
use Rattle.circ_nodes.proofs.Numbers.{are_named_at}
use Rattle.circ_chain.specs.Through.{Readies}
use Rattle.circ_chain.specs.Listed.{Lists}
use Rattle.circ_chain.proofs.Standings.{arg_less_deep}
use Rattle.circ_chain.proofs.Listing.{lists_args_end}
use Rattle.circ_memo.specs.Keeping.{IsNumberKept, HasKeptArgs}
use Rattle.circ_memo.specs.Listing.{count_at, ListsArgs}
use Rattle.circ_memo.specs.declared.parts.Entry.{Entry}
use Rattle.circ_memo.proofs.Stores.{depth_named, depth_named_is}

pub number_count : (es : List (Option Entry)) (n c : ℕ) → IsNumberKept es n c → count_at es n ≤ c
number_count es n c h = rw h.1 h.2

pub are_named_once : (nodes : List Tree) → IsOnce nodes → (ns ms : List ℕ) (ts : Trees) → AreNamed nodes ns ts → AreNamed nodes ms ts → ns ≡ ms
are_named_once nodes once [] [] ts h k = refl
are_named_once nodes once [] (m ∷ ms) none h k = absurd k
are_named_once nodes once [] (m ∷ ms) (more t ts) h k = absurd h
are_named_once nodes once (n ∷ ns) [] none h k = absurd h
are_named_once nodes once (n ∷ ns) [] (more t ts) h k = absurd k
are_named_once nodes once (n ∷ ns) (m ∷ ms) none h k = absurd h
are_named_once nodes once (n ∷ ns) (m ∷ ms) (more t ts) h k =
    ap (λ x. x ∷ ns) (once n m t h.0 k.0) ∙ ap (λ xs. m ∷ xs) (are_named_once nodes once ns ms ts h.1 k.1)

same_args : (f g s k : ℕ) (ts us : Trees) → App f s ts ≡ App g k us → ts ≡ us
same_args f g s k ts us e = cc

module _ (nodes : List Tree) (es : List (Option Entry)) (once : IsOnce nodes) (t : Tree) (count : ℕ) (h : HasKeptArgs nodes es t count) (f s : ℕ) (ts : Trees) (ns : List ℕ)
    (is : t ≡ App f s ts) (named : AreNamed nodes ns ts) where
  -- something is kept of the argument of this number, too
  pub arg_kept : (i n : ℕ) → slice_get ns i ≡ Some n → IsNumberKept es n count
  arg_kept i n g =
      let args : h.args ≡ ts = same_args h.op f h.sort s h.args ts (sym h.is ∙ is) in
      let numbers : h.numbers ≡ ns = are_named_once nodes once h.numbers ns ts (subst (λ x. AreNamed nodes h.numbers x) args h.named) named in
      h.kept i n (ap (λ x. slice_get x i) numbers ∙ g)

  -- listing there takes less work
  pub arg_less : (i n here : ℕ) → slice_get ns i ≡ Some n → IsNamed nodes here t → count ≤ count_at es here
      → count_at es n * 4004 + 4 * depth_named nodes n + 3 < count_at es here * 4004 + 4 * depth_named nodes here
  arg_less i n here g k w =
      let a = are_named_at nodes ns ts i n named g in
      omega (
        arith,
        number_count es n count (arg_kept i n g),
        w,
        depth_named_is nodes n a.0 a.2,
        depth_named_is nodes here t k,
        ap depth_of is,
        arg_less_deep f s i ts a.0 a.1,
      )

-- the traces up to normal arguments, where those in the arguments are listed
pub lists_ready : (due : Tree → Option Replacement) (b d : ℕ) (p : List ℕ) (t u : Tree) (known old new : List Traced) → ListsArgs due p t old new → Readies due b d t known u
    → Lists due p t u old new
lists_ready due b d p t u known old new h r =
    subst (λ x. Lists due p x u old new) (sym h.4)
    (lists_args_end due b d p h.0 h.1 (length (list_of h.2)) h.2 h.3 u known old new h.5 refl (subst (λ x. Readies due b d x known u) h.4 r))

pub fewer : (es : List (Option Entry)) (next here number c : ℕ) → count_at es next ≤ c → c < count_at es here → (here ≡ number) ⊎ (count_at es here < count_at es number)
    → count_at es next < count_at es number
fewer es next here number c a b (inl e) = omega (arith, a, b, ap (count_at es) e)
fewer es next here number c a b (inr l) = omega (arith, a, b, l)
