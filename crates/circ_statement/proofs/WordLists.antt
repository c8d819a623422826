-- Words, and lists cut at a word.
use Rattle.std.proofs.Common.{◌≡◌, List, [], ◌∷◌, ◌++◌, Bool, true, false, ◌||◌, ◌&&◌, codes, refl, sym, ap, ◌∙◌}
use Rattle.std.proofs.lemmas.Slice.Eq.{bytes_eq-Decides}
use Rattle.std.proofs.lemmas.List.Folds.{list_any-append}
use Rattle.circ_statement.specs.Words.{Word, is_word, has_word, is_name, are_names, are_some_names}

pub word_is : (v w : Word) → is_word v w ≡ true → v ≡ w
word_is v w h = (bytes_eq-Decides v w).0 h

pub word_other : (v w : Word) → is_word v w ≡ false → v ≡ w → ⊥
word_other v w h e = let yes : is_word v w ≡ true = (bytes_eq-Decides v w).1 e in cc

pub or_left : (p q : Bool) → (p || q) ≡ false → p ≡ false
or_left true q h = h
or_left false q h = refl

pub or_right : (p q : Bool) → (p || q) ≡ false → q ≡ false
or_right true q h = cc
or_right false q h = h

-- the first such word cuts a list in one way
pub split_same : (w : Word) (a b c d : List Word) → has_word w a ≡ false → has_word w c ≡ false → a ++ w ∷ b ≡ c ++ w ∷ d → (a ≡ c) × (b ≡ d)
split_same w [] b [] d h k e = (refl, cc)
split_same w [] b (x ∷ c) d h k e = absurd (word_other x w (or_left (is_word x w) _ k) (cc))
split_same w (x ∷ a) b [] d h k e = absurd (word_other x w (or_left (is_word x w) _ h) (cc))
split_same w (x ∷ a) b (y ∷ c) d h k e =
    let r : (a ≡ c) × (b ≡ d) = split_same w a b c d (or_right (is_word x w) _ h) (or_right (is_word y w) _ k) (cc) in (cc, r.1)

-- a list that lacks the word is not cut at it
pub split_lacks : (w : Word) (ws a b : List Word) → has_word w ws ≡ false → ws ≡ a ++ w ∷ b → ⊥
split_lacks w [] [] b h e = cc
split_lacks w [] (y ∷ a) b h e = cc
split_lacks w (x ∷ ws) [] b h e = word_other x w (or_left (is_word x w) _ h) (cc)
split_lacks w (x ∷ ws) (y ∷ a) b h e = split_lacks w ws a b (or_right (is_word x w) _ h) (cc)

-- one word more is lacked
pub lacks_more : (w : Word) (a : List Word) (x : Word) → has_word w a ≡ false → is_word x w ≡ false → has_word w (a ++ x ∷ []) ≡ false
lacks_more w a x h k = list_any-append (λ v. is_word v w) a (x ∷ []) ∙ rw (h, k) refl

-- names have no colon
colon_unnamed : (w : Word) → is_name w ≡ true → is_word w (codes ":") ≡ false
colon_unnamed w h = go (is_word w (codes ":")) refl
  where
    go : (b : Bool) → is_word w (codes ":") ≡ b → is_word w (codes ":") ≡ false
    go false e = e
    go true e = let no : is_name (codes ":") ≡ true = ap is_name (sym (word_is w (codes ":") e)) ∙ h in absurd (cc)

and_both : (p q : Bool) → (p && q) ≡ true → (p ≡ true) × (q ≡ true)
and_both true q h = (refl, h)
and_both false q h = absurd (cc)

names_lack : (ws : List Word) → are_names ws ≡ true → has_word (codes ":") ws ≡ false
names_lack [] h = refl
names_lack (w ∷ ws) h = let p = and_both (is_name w) (are_names ws) h in rw (colon_unnamed w p.0, names_lack ws p.1) refl

pub some_names_lack : (ws : List Word) → are_some_names ws ≡ true → has_word (codes ":") ws ≡ false
some_names_lack [] h = absurd (cc)
some_names_lack (w ∷ ws) h = names_lack (w ∷ ws) h
