-- How a number is put into its chain, and taken out of it again.
use Rattle.std.specs.Prelude.{◌≡◌, ℕ, zero, suc, ◌+◌, ◌-◌, ◌≤◌, ◌<◌, List, [], ◌∷◌, ◌++◌, length, replicate, slice_set, Some, refl}
use Rattle.std.specs.List.{slice_get}
use Rattle.std.proofs.Common.{ap, sym, subst, ◌∙◌, arith, ◌⊎◌, inl, inr}
use Rattle.std.proofs.lemmas.Bool.{cases_eq}
use Rattle.std.proofs.lemmas.List.{length-set, length-map, map-append}
use Rattle.std.proofs.lemmas.Option.{same_Some}
use Rattle.circ_hash_chains.specs.declared.hash_chains.Link.{Link}
use Rattle.circ_hash_chains.specs.declared.hash_chains.TheConstants.{CHAIN_END}
use Rattle.circ_hash_chains.specs.Chains.{keys_of, chain_of, StandsIn, Leads, IsNewest, IsLinked}
use Rattle.circ_hash_chains.proofs.Lists.{get_front, get_back, get_put, get_other, get_replicate, get_map}

-- none before the first
pub linked_none : (keys : List ℕ) (links : List Link) (width : ℕ) → IsLinked keys links (replicate width CHAIN_END) 0
linked_none keys links width = record {
  newest = λ chain link e. record { above = λ m b s. absurd (omega arith); leads = inl (get_replicate width CHAIN_END chain link e) };
  older = λ m link b e. absurd (omega arith);
}

newest_more : (keys : List ℕ) (w chain count link : ℕ) → (StandsIn keys w chain count → ⊥) → IsNewest keys w chain count link → IsNewest keys w chain (count + 1) link
newest_more keys w chain count link apart h = record { above = λ m b s. above m b s (cases_eq m count); leads = there h.leads }
  where
    above : (m : ℕ) → m < count + 1 → StandsIn keys w chain m → (m ≡ count) ⊎ (m ≡ count → ⊥) → m < link
    above m b s (inl e) = absurd (apart (let P : ℕ → Type 0 = λ n. StandsIn keys w chain n in subst P e s))
    above m b s (inr e) = h.above m (omega arith) s

    there : Leads keys w chain count link → Leads keys w chain (count + 1) link
    there (inl e) = inl e
    there (inr s) = inr (s.0, omega (arith, s.1), s.2)

-- another becomes the newest of its chain
pub linked_more : (keys : List ℕ) (links : List Link) (heads : List ℕ) (count chain : ℕ) (link : Link) → slice_get keys count ≡ Some link.key → chain_of link.key (length heads) ≡ chain
    → slice_get heads chain ≡ Some link.next → IsLinked keys links heads count → IsLinked keys (slice_set links count link) (slice_set heads chain (count + 1)) (count + 1)
linked_more keys links heads count chain link there is read h = record {
  newest = λ c l e. subst (λ w. IsNewest keys w c (count + 1) l) (sym wide) (newest c l e (cases_eq chain c));
  older = λ m l b f. subst (λ w. IsNewest keys w (chain_of l.key w) m l.next) (sym wide) (older m l b f (cases_eq m count));
}
  where
    wide : length (slice_set heads chain (count + 1)) ≡ length heads
    wide = length-set heads chain (count + 1)

    own : (l : ℕ) → count + 1 ≡ l → IsNewest keys (length heads) chain (count + 1) l
    own l e = record {
      above = λ m b s. omega arith;
      leads = inr (omega arith, omega arith, let P : ℕ → Type 0 = λ n. StandsIn keys (length heads) chain n in subst P (let q : count ≡ l - 1 = omega arith in q) (link.key, there, is));
    }

    newest : (c l : ℕ) → slice_get (slice_set heads chain (count + 1)) c ≡ Some l → (chain ≡ c) ⊎ (chain ≡ c → ⊥) → IsNewest keys (length heads) c (count + 1) l
    newest c l e (inl s) = subst (λ x. IsNewest keys (length heads) x (count + 1) l) s (own l (get_put heads chain (count + 1) l (ap (slice_get (slice_set heads chain (count + 1))) s ∙ e)))
    newest c l e (inr s) = newest_more keys (length heads) c count l apart (h.newest c l (get_other heads chain c (count + 1) l s e))
      where
        apart : StandsIn keys (length heads) c count → ⊥
        apart t = s (sym is ∙ ap (λ k. chain_of k (length heads)) (same_Some link.key t.0 (sym there ∙ t.1)) ∙ t.2)

    older : (m : ℕ) (l : Link) → m < count + 1 → slice_get (slice_set links count link) m ≡ Some l → (m ≡ count) ⊎ (m ≡ count → ⊥)
        → IsNewest keys (length heads) (chain_of l.key (length heads)) m l.next
    older m l b f (inr s) = h.older m l (omega arith) (get_other links count m link l (λ z. s (sym z)) f)
    older m l b f (inl s) =
        let put : link ≡ l = get_put links count link l (ap (slice_get (slice_set links count link)) (sym s) ∙ f) in
        let P : ℕ → Type 0 = λ n. IsNewest keys (length heads) (chain_of l.key (length heads)) n l.next in
        let Q : ℕ → Type 0 = λ c. IsNewest keys (length heads) c count link.next in
        let R : Link → Type 0 = λ n. IsNewest keys (length heads) (chain_of n.key (length heads)) count n.next in
        subst P (sym s) (subst R put (subst Q (sym is) (h.newest chain link.next read)))

-- a link in place of one with its key
pub keys_set : (links : List Link) (n : ℕ) (old new : Link) → slice_get links n ≡ Some old → new.key ≡ old.key → keys_of (slice_set links n new) ≡ keys_of links
keys_set [] n old new was same = refl
keys_set (l ∷ links) zero old new was same = ap (λ k. k ∷ keys_of links) (same ∙ ap (λ x. x.key) (sym (same_Some l old was)))
keys_set (l ∷ links) (suc n) old new was same = ap (λ ks. l.key ∷ ks) (keys_set links n old new was same)

-- with a key more the chains are the same
newest_longer : (keys more : List ℕ) (w chain count link : ℕ) → count ≤ length keys → IsNewest keys w chain count link → IsNewest (keys ++ more) w chain count link
newest_longer keys more w chain count link few k = record {
  above = λ m b s. k.above m b (s.0, get_back keys more m s.0 (omega arith) s.1, s.2);
  leads = there k.leads;
}
  where
    there : Leads keys w chain count link → Leads (keys ++ more) w chain count link
    there (inl e) = inl e
    there (inr s) = inr (s.0, s.1, (s.2.0, get_front keys more (link - 1) s.2.0 s.2.1, s.2.2))

pub linked_next : (links : List Link) (extra : Link) (heads : List ℕ) → IsLinked (keys_of links) links heads (length links)
    → IsLinked (keys_of (links ++ extra ∷ [])) (links ++ extra ∷ []) heads (length links)
linked_next links extra heads h =
    let long = length-map links (λ l. l.key) in
    let P : List ℕ → Type 0 = λ ks. IsLinked ks (links ++ extra ∷ []) heads (length links) in
    subst P (sym (map-append (λ l. l.key) links (extra ∷ []))) (record {
      newest = λ chain link e. newest_longer (keys_of links) (extra.key ∷ []) (length heads) chain (length links) link (omega (arith, long)) (h.newest chain link e);
      older = λ m link b e. newest_longer (keys_of links) (extra.key ∷ []) (length heads) (chain_of link.key (length heads)) m link.next (omega (arith, long)) (h.older m link b (get_back links (extra ∷ []) m link b e));
    })

-- with a key less those of the numbers that stay are the same
newest_shorter : (keys more : List ℕ) (w chain count link : ℕ) → count ≤ length keys → IsNewest (keys ++ more) w chain count link → IsNewest keys w chain count link
newest_shorter keys more w chain count link few k = record {
  above = λ m b s. k.above m b (s.0, get_front keys more m s.0 s.1, s.2);
  leads = there k.leads;
}
  where
    there : Leads (keys ++ more) w chain count link → Leads keys w chain count link
    there (inl e) = inl e
    there (inr s) = inr (s.0, s.1, (s.2.0, get_back keys more (link - 1) s.2.0 (omega (arith, s.0, s.1)) s.2.1, s.2.2))

newest_less : (keys : List ℕ) (w chain count link : ℕ) → (StandsIn keys w chain count → ⊥) → IsNewest keys w chain (count + 1) link → IsNewest keys w chain count link
newest_less keys w chain count link apart h = record { above = λ m b s. h.above m (omega arith) s; leads = there h.leads }
  where
    there : Leads keys w chain (count + 1) link → Leads keys w chain count link
    there (inl e) = inl e
    there (inr s) = inr (s.0, below (cases_eq (link - 1) count), s.2)
      where
        below : (link - 1 ≡ count) ⊎ (link - 1 ≡ count → ⊥) → link ≤ count
        below (inl e) = absurd (apart (let P : ℕ → Type 0 = λ n. StandsIn keys w chain n in subst P e s.2))
        below (inr e) = omega (arith, s.0, s.1)

-- The last number is taken out of its chain: its link becomes the chain's first.
pub linked_less : (front : List Link) (last : Link) (heads : List ℕ) → IsLinked (keys_of (front ++ last ∷ [])) (front ++ last ∷ []) heads (length front + 1)
    → IsLinked (keys_of front) front (slice_set heads (chain_of last.key (length heads)) last.next) (length front)
linked_less front last heads h = record {
  newest = λ c l e. subst (λ w. IsNewest (keys_of front) w c (length front) l) (sym wide) (newest c l e (cases_eq (chain_of last.key (length heads)) c));
  older = λ m l b f. subst (λ w. IsNewest (keys_of front) w (chain_of l.key w) m l.next) (sym wide) (older m l b f);
}
  where
    long : length (keys_of front) ≡ length front
    long = length-map front (λ l. l.key)

    wide : length (slice_set heads (chain_of last.key (length heads)) last.next) ≡ length heads
    wide = length-set heads (chain_of last.key (length heads)) last.next

    same : keys_of (front ++ last ∷ []) ≡ keys_of front ++ last.key ∷ []
    same = map-append (λ l. l.key) front (last ∷ [])

    seam : {X : Type 0} (xs : List X) (x : X) → slice_get (xs ++ x ∷ []) (length xs) ≡ Some x
    seam [] x = refl
    seam (z ∷ xs) x = seam xs x

    short : (c count l : ℕ) → count ≤ length front → IsNewest (keys_of (front ++ last ∷ [])) (length heads) c count l → IsNewest (keys_of front) (length heads) c count l
    short c count l few k =
        newest_shorter (keys_of front) (last.key ∷ []) (length heads) c count l (omega (arith, long)) (let P : List ℕ → Type 0 = λ ks. IsNewest ks (length heads) c count l in subst P same k)

    older : (m : ℕ) (l : Link) → m < length front → slice_get front m ≡ Some l → IsNewest (keys_of front) (length heads) (chain_of l.key (length heads)) m l.next
    older m l b f = short (chain_of l.key (length heads)) m l.next (omega arith) (h.older m l (omega arith) (get_front front (last ∷ []) m l f))

    newest : (c l : ℕ) → slice_get (slice_set heads (chain_of last.key (length heads)) last.next) c ≡ Some l → (chain_of last.key (length heads) ≡ c) ⊎ (chain_of last.key (length heads) ≡ c → ⊥)
        → IsNewest (keys_of front) (length heads) c (length front) l
    newest c l e (inl s) =
        let put : last.next ≡ l = get_put heads (chain_of last.key (length heads)) last.next l (ap (slice_get (slice_set heads (chain_of last.key (length heads)) last.next)) s ∙ e) in
        let own = short (chain_of last.key (length heads)) (length front) last.next (omega arith) (h.older (length front) last (omega arith) (seam front last)) in
        let P : ℕ → Type 0 = λ x. IsNewest (keys_of front) (length heads) x (length front) l in
        let Q : ℕ → Type 0 = λ x. IsNewest (keys_of front) (length heads) (chain_of last.key (length heads)) (length front) x in
        subst P s (subst Q put own)
    newest c l e (inr s) =
        short c (length front) l (omega arith) (newest_less (keys_of (front ++ last ∷ [])) (length heads) c (length front) l apart (h.newest c l (get_other heads (chain_of last.key (length heads)) c last.next l s e)))
      where
        apart : StandsIn (keys_of (front ++ last ∷ [])) (length heads) c (length front) → ⊥
        apart t =
            let there : slice_get (keys_of (front ++ last ∷ [])) (length front) ≡ Some last.key = get_map (λ x. x.key) (front ++ last ∷ []) (length front) last (seam front last) in
            s (ap (λ k. chain_of k (length heads)) (same_Some last.key t.0 (sym there ∙ t.1)) ∙ t.2)
