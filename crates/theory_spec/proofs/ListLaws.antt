-- Laws of tests and of lists, as far as the libraries do not have them in this form. A test is a `Bool`; it passes
-- where it is `≡ true`.
-- Assumes nothing.
use mathlib.Core.Path.{◌≡◌, refl, sym, ap, ap₂, ◌∙◌, subst}
use mathlib.Core.Logic.{◌⊎◌, ◌↔◌, inl, inr}
use mathlib.Core.Bool.{Bool, true, false, ◌&&◌, ◌||◌, true≢false, false≢true, or_assoc}
use mathlib.Core.Option.{Option, some, none}
use mathlib.Core.List.{List, [], ◌∷◌, ◌++◌, map, append_assoc, map-append}
use mathlib.Core.List.Memᴰ
use Prim.Native.Nat.{ℕ, zero, suc, ◌+◌, ◌-◌, ◌≤◌, ◌<◌}
use lib.Dec.{eqb}
use borrow.Author.Tests.{eqb-true, eqb-false, eq-eqb}
use native.Mathlib.Omega.{arith}
use lib.ListN.{length, get_or, take, drop, replicate, length-append, length-replicate, take-append-drop}
use Rattle.theory_spec.specs.Lists.{◌∈◌, keep_if, keep, any, every, Pairwise, is_some, padded, flat}
use Rattle.theory_spec.specs.How.Folds.{fold_over}
use Rattle.theory_spec.specs.Lists.{numbers_from, same}

-- ── Tests ────────────────────────────────────────────────────────────────────────────────────────

-- a test passes or fails
pub passes? : (b : Bool) → (b ≡ true) ⊎ (b ≡ false)
passes? true = inl refl
passes? false = inr refl

pub not-both {ℓ} : {X : Type ℓ} {b : Bool} → b ≡ true → b ≡ false → X
not-both p q = absurd (true≢false (sym p ∙ q))

-- a test that cannot pass fails
pub never_true : (b : Bool) → (b ≡ true → ⊥) → b ≡ false
never_true true h = absurd (h refl)
never_true false h = refl

pub and_split : (a b : Bool) → (a && b) ≡ true → (a ≡ true) × (b ≡ true)
and_split true b p = (refl, p)
and_split false b p = absurd (false≢true p)

pub and_join : {a b : Bool} → a ≡ true → b ≡ true → (a && b) ≡ true
and_join p q = rw p q

pub or_split : (a b : Bool) → (a || b) ≡ true → (a ≡ true) ⊎ (b ≡ true)
or_split true b p = inl refl
or_split false b p = inr p

pub or_left : {a : Bool} (b : Bool) → a ≡ true → (a || b) ≡ true
or_left b p = rw p refl

pub or_right : (a : Bool) {b : Bool} → b ≡ true → (a || b) ≡ true
or_right true p = refl
or_right false p = p

-- two tests that pass together are equal
pub same_test : (a b : Bool) → (a ≡ true → b ≡ true) → (b ≡ true → a ≡ true) → a ≡ b
same_test true b f g = sym (f refl)
same_test false true f g = g refl
same_test false false f g = refl

-- ── Membership ───────────────────────────────────────────────────────────────────────────────────

module _ {A : Type 0} where
  pub here : (a : A) (l : List A) → a ∈ a ∷ l
  here a l = Memᴰ.head refl

  pub in-keep : (p : A → Bool) {a : A} {l : List A} → a ∈ l → p a ≡ true → a ∈ keep p l
  in-keep p {a} (Memᴰ.head {x = x} {xs = xs} e) h = go (p x) (sym (ap p e) ∙ h)
    where
      go : (b : Bool) → b ≡ true → a ∈ keep_if b x (keep p xs)
      go true q = Memᴰ.head e
      go false q = absurd (false≢true q)
  in-keep p {a} (Memᴰ.tail {x = x} {xs = xs} d) h = go (p x) (in-keep p d h)
    where
      go : (b : Bool) → a ∈ keep p xs → a ∈ keep_if b x (keep p xs)
      go true d' = Memᴰ.tail d'
      go false d' = d'

  pub of-keep : (p : A → Bool) {a : A} (l : List A) → a ∈ keep p l → (a ∈ l) × (p a ≡ true)
  of-keep p [] d = elim d [ ]
  of-keep p {a} (x ∷ xs) d = go (p x) refl d (of-keep p xs)
    where
      go : (b : Bool) → p x ≡ b → a ∈ keep_if b x (keep p xs) → (a ∈ keep p xs → (a ∈ xs) × (p a ≡ true)) → (a ∈ x ∷ xs)
          × (p a ≡ true)
      go true q (Memᴰ.head e) ih = (Memᴰ.head e, ap p e ∙ q)
      go true q (Memᴰ.tail d') ih = (Memᴰ.tail (ih d').0, (ih d').1)
      go false q d' ih = (Memᴰ.tail (ih d').0, (ih d').1)

  pub true-any : (p : A → Bool) {a : A} {l : List A} → a ∈ l → p a ≡ true → any p l ≡ true
  true-any p (Memᴰ.head {xs = xs} e) h = or_left (any p xs) (sym (ap p e) ∙ h)
  true-any p (Memᴰ.tail {x = x} d) h = or_right (p x) (true-any p d h)

  pub any_true : (p : A → Bool) (l : List A) → any p l ≡ true → (a : A) × (a ∈ l) × (p a ≡ true)
  any_true p [] h = absurd (false≢true h)
  any_true p (x ∷ xs) h = go (or_split (p x) (any p xs) h) (any_true p xs)
    where
      go : (p x ≡ true) ⊎ (any p xs ≡ true) → (any p xs ≡ true → (a : A) × (a ∈ xs) × (p a ≡ true)) → (a : A)
          × (a ∈ x ∷ xs) × (p a ≡ true)
      go (inl q) ih = (x, here x xs, q)
      go (inr q) ih = let w = ih q in (w.0, Memᴰ.tail w.1, w.2)

  pub every_at : (p : A → Bool) {a : A} {l : List A} → every p l ≡ true → a ∈ l → p a ≡ true
  every_at p h (Memᴰ.head {x = x} {xs = xs} e) = ap p e ∙ (and_split (p x) (every p xs) h).0
  every_at p h (Memᴰ.tail {x = x} {xs = xs} d) = every_at p (and_split (p x) (every p xs) h).1 d

  pub true-every : (p : A → Bool) (l : List A) → ((a : A) → a ∈ l → p a ≡ true) → every p l ≡ true
  true-every p [] h = refl
  true-every p (x ∷ xs) h = and_join (h x (here x xs)) (true-every p xs (λ a d. h a (Memᴰ.tail d)))

  -- no element passes
  pub keep_none : (p : A → Bool) (l : List A) → ((a : A) → a ∈ l → p a ≡ false) → keep p l ≡ []
  keep_none p [] h = refl
  keep_none p (x ∷ xs) h = rw (h x (here x xs)) (keep_none p xs (λ a d. h a (Memᴰ.tail d)))

  -- the first element passes
  pub keep_pass : (p : A → Bool) (x : A) (xs : List A) → p x ≡ true → keep p (x ∷ xs) ≡ x ∷ keep p xs
  keep_pass p x xs h = ap (λ b. keep_if b x (keep p xs)) h

  pub any_append : (p : A → Bool) (s t : List A) → any p (s ++ t) ≡ (any p s || any p t)
  any_append p [] t = refl
  any_append p (x ∷ xs) t = ap (λ b. p x || b) (any_append p xs t) ∙ sym (or_assoc (p x) (any p xs) (any p t))

  -- a test that only kept elements pass
  pub any-keep : (p k : A → Bool) (l : List A) → ((a : A) → p a ≡ true → k a ≡ true) → any p (keep k l) ≡ any p l
  any-keep p k l h = same_test (any p (keep k l)) (any p l) down up
    where
      down : any p (keep k l) ≡ true → any p l ≡ true
      down e = let w = any_true p (keep k l) e in true-any p (of-keep k l w.1).0 w.2

      up : any p l ≡ true → any p (keep k l) ≡ true
      up e = let w = any_true p l e in true-any p (in-keep k w.1 (h w.0 w.2)) w.2

  pub map_id : (l : List A) → map (λ (a : A). a) l ≡ l
  map_id [] = refl
  map_id (x ∷ xs) = ap {B = List A} (λ r. x ∷ r) (map_id xs)

  pub keep_append : (p : A → Bool) (s t : List A) → keep p (s ++ t) ≡ keep p s ++ keep p t
  keep_append p [] t = refl
  keep_append p (x ∷ xs) t = go (p x) (keep_append p xs t)
    where
      go : (b : Bool) → keep p (xs ++ t) ≡ keep p xs ++ keep p t
          → keep_if b x (keep p (xs ++ t)) ≡ keep_if b x (keep p xs) ++ keep p t
      go true e = ap {B = List A} (λ r. x ∷ r) e
      go false e = e

  -- a list made up to n elements has n
  pub padded-length : (n : ℕ) (x : A) (l : List A) → length l ≤ n → length (padded n x l) ≡ n
  padded-length n x l h = omega (arith, length-append l (replicate (n - length l) x), length-replicate (n - length l) x)

module _ {A B : Type 0} where
  pub in-flat : (f : A → List B) {a : A} {b : B} {l : List A} → a ∈ l → b ∈ f a → b ∈ flat f l
  in-flat f {b = b} (Memᴰ.head {xs = xs} e) d = Memᴰ.append_left (flat f xs) (subst (λ x. b ∈ f x) e d)
  in-flat f (Memᴰ.tail {x = x} m) d = Memᴰ.append_right (f x) (in-flat f m d)

  pub of-flat : (f : A → List B) {b : B} (l : List A) → b ∈ flat f l → (a : A) × (a ∈ l) × (b ∈ f a)
  of-flat f [] d = elim d [ ]
  of-flat f {b} (x ∷ xs) d = go (Memᴰ.append_cases (f x) d) (of-flat f xs)
    where
      go : (b ∈ f x) ⊎ (b ∈ flat f xs) → (b ∈ flat f xs → (a : A) × (a ∈ xs) × (b ∈ f a)) → (a : A) × (a ∈ x ∷ xs)
          × (b ∈ f a)
      go (inl m) ih = (x, here x xs, m)
      go (inr m) ih = let w = ih m in (w.0, Memᴰ.tail w.1, w.2)

  pub flat-same : (f g : A → List B) (l : List A) → ((a : A) → a ∈ l → f a ≡ g a) → flat f l ≡ flat g l
  flat-same f g [] h = refl
  flat-same f g (x ∷ xs) h =
      rw (h x (here x xs)) (ap (λ r. g x ++ r) (flat-same f g xs (λ a d. h a (Memᴰ.tail d))))

  pub keep-flat : (p : B → Bool) (f : A → List B) (l : List A) → keep p (flat f l) ≡ flat (λ a. keep p (f a)) l
  keep-flat p f [] = refl
  keep-flat p f (x ∷ xs) = keep_append p (f x) (flat f xs) ∙ ap (λ r. keep p (f x) ++ r) (keep-flat p f xs)

  pub flat_append : (f : A → List B) (s t : List A) → flat f (s ++ t) ≡ flat f s ++ flat f t
  flat_append f [] t = refl
  flat_append f (x ∷ xs) t = ap (λ r. f x ++ r) (flat_append f xs t) ∙ sym (append_assoc (f x) (flat f xs) (flat f t))

  pub fold-append : (f : A → B → B) (s t : List A) (b : B) → fold_over f b (s ++ t) ≡ fold_over f (fold_over f b s) t
  fold-append f [] t b = refl
  fold-append f (x ∷ s) t b = fold-append f s t (f x b)

  pub flat_one : (f : A → B) (l : List A) → flat (λ a. f a ∷ []) l ≡ map f l
  flat_one f [] = refl
  flat_one f (x ∷ xs) = ap {B = List B} (λ r. f x ∷ r) (flat_one f xs)

module _ {A B C : Type 0} where
  pub flat_map : (f : B → List C) (g : A → B) (l : List A) → flat f (map g l) ≡ flat (λ a. f (g a)) l
  flat_map f g [] = refl
  flat_map f g (x ∷ xs) = ap (λ r. f (g x) ++ r) (flat_map f g xs)

  pub flat-flat : (f : B → List C) (g : A → List B) (l : List A) → flat f (flat g l) ≡ flat (λ a. flat f (g a)) l
  flat-flat f g [] = refl
  flat-flat f g (x ∷ xs) = flat_append f (g x) (flat g xs) ∙ ap (λ r. flat f (g x) ++ r) (flat-flat f g xs)

  pub map-flat : (g : B → C) (f : A → List B) (l : List A) → map g (flat f l) ≡ flat (λ a. map g (f a)) l
  map-flat g f [] = refl
  map-flat g f (x ∷ xs) = map-append g (f x) (flat f xs) ∙ ap (λ r. map g (f x) ++ r) (map-flat g f xs)

  pub map_of-map : (g : B → C) (f : A → B) (l : List A) → map g (map f l) ≡ map (λ a. g (f a)) l
  map_of-map g f [] = refl
  map_of-map g f (x ∷ xs) = ap {B = List C} (λ r. g (f x) ∷ r) (map_of-map g f xs)

-- ── Order ────────────────────────────────────────────────────────────────────────────────────────

module _ {A : Type 0} where
  pub pairwise_append : (R : A → A → Type 0) (s t : List A) → Pairwise R s → Pairwise R t
      → ((a b : A) → a ∈ s → b ∈ t → R a b) → Pairwise R (s ++ t)
  pairwise_append R [] t os ot h = ot
  pairwise_append R (x ∷ xs) t os ot h = (
    λ y d. go y (Memᴰ.append_cases xs d),
    pairwise_append R xs t os.1 ot (λ a b da db. h a b (Memᴰ.tail da) db),
  )
    where
      go : (y : A) → (y ∈ xs) ⊎ (y ∈ t) → R x y
      go y (inl d) = os.0 y d
      go y (inr d) = h x y (here x xs) d

  pub pairwise-keep : (R : A → A → Type 0) (p : A → Bool) (l : List A) → Pairwise R l → Pairwise R (keep p l)
  pairwise-keep R p [] o = tt
  pairwise-keep R p (x ∷ xs) o = go (p x) (pairwise-keep R p xs o.1)
    where
      go : (b : Bool) → Pairwise R (keep p xs) → Pairwise R (keep_if b x (keep p xs))
      go true o' = (λ y d. o.0 y (of-keep p xs d).0, o')
      go false o' = o'

  pub pairwise_imp : (R S : A → A → Type 0) (l : List A) → ((a b : A) → a ∈ l → b ∈ l → R a b → S a b) → Pairwise R l
      → Pairwise S l
  pairwise_imp R S [] f o = tt
  pairwise_imp R S (x ∷ xs) f o = (
    λ y d. f x y (here x xs) (Memᴰ.tail d) (o.0 y d),
    pairwise_imp R S xs (λ a b da db. f a b (Memᴰ.tail da) (Memᴰ.tail db)) o.1,
  )

  -- what stands behind an element of an ordered list
  pub pairwise-behind : (R : A → A → Type 0) (x : List A) (a : A) (y : List A) → Pairwise R (x ++ (a ∷ y)) → (b : A)
      → b ∈ y → R a b
  pairwise-behind R [] a y o b d = o.0 b d
  pairwise-behind R (c ∷ x) a y o b d = pairwise-behind R x a y o.1 b d

  pub in_get_d : (l : List A) (i : ℕ) (d : A) → i < length l → get_or l i d ∈ l
  in_get_d [] i d h = absurd (omega arith)
  in_get_d (x ∷ xs) zero d h = here x xs
  in_get_d (x ∷ xs) (suc i) d h = Memᴰ.tail (in_get_d xs i d (omega arith))

  -- two places of an ordered list
  pub pairwise_get_d : (R : A → A → Type 0) (l : List A) → Pairwise R l → (i j : ℕ) (d : A) → i < j → j < length l
      → R (get_or l i d) (get_or l j d)
  pairwise_get_d R [] o i j d h k = absurd (omega arith)
  pairwise_get_d R (x ∷ xs) o i zero d h k = absurd (omega arith)
  pairwise_get_d R (x ∷ xs) o zero (suc j) d h k = o.0 (get_or xs j d) (in_get_d xs j d (omega arith))
  pairwise_get_d R (x ∷ xs) o (suc i) (suc j) d h k = pairwise_get_d R xs o.1 i j d (omega arith) (omega arith)

module _ {A B : Type 0} where
  pub pairwise_map : (R : A → A → Type 0) (S : B → B → Type 0) (f : A → B) (l : List A) → Pairwise R l
      → ((a b : A) → R a b → S (f a) (f b)) → Pairwise S (map f l)
  pairwise_map R S f [] o h = tt
  pairwise_map R S f (x ∷ xs) o h = (λ y d. go y (Memᴰ.of_map f xs d), pairwise_map R S f xs o.1 h)
    where
      go : (y : B) → ((a : A) × (a ∈ xs) × (f a ≡ y)) → S (f x) y
      go y w = subst (S (f x)) w.2 (h x w.0 (o.0 w.0 w.1))

  pub pairwise-flat : (R : A → A → Type 0) (S : B → B → Type 0) (f : A → List B) (l : List A) → Pairwise R l
      → ((a : A) → Pairwise S (f a))
      → ((a a' : A) → R a a' → (b b' : B) → b ∈ f a → b' ∈ f a' → S b b') → Pairwise S (flat f l)
  pairwise-flat R S f [] o each h = tt
  pairwise-flat R S f (x ∷ xs) o each h =
      pairwise_append S (f x) (flat f xs) (each x) (pairwise-flat R S f xs o.1 each h)
      (λ b b' d d'. go b b' d (of-flat f xs d'))
    where
      go : (b b' : B) → b ∈ f x → ((a : A) × (a ∈ xs) × (b' ∈ f a)) → S b b'
      go b b' d w = h x w.0 (o.0 w.0 w.1) b b' d w.2

-- ── The first of a list, and the others ──────────────────────────────────────────────────────────

module _ {A : Type 0} where
  pub of-take : (n : ℕ) (l : List A) {a : A} → a ∈ take n l → a ∈ l
  of-take zero l d = absurd (Memᴰ.not-nil d)
  of-take (suc n) [] d = absurd (Memᴰ.not-nil d)
  of-take (suc n) (x ∷ l) (Memᴰ.head e) = Memᴰ.head e
  of-take (suc n) (x ∷ l) (Memᴰ.tail d) = Memᴰ.tail (of-take n l d)

  pub of-drop : (n : ℕ) (l : List A) {a : A} → a ∈ drop n l → a ∈ l
  of-drop zero l d = d
  of-drop (suc n) [] d = absurd (Memᴰ.not-nil d)
  of-drop (suc n) (x ∷ l) d = Memᴰ.tail (of-drop n l d)

  -- what is in a list is among the first or among the others
  pub take_or-drop : (n : ℕ) (l : List A) {a : A} → a ∈ l → (a ∈ take n l) ⊎ (a ∈ drop n l)
  take_or-drop n l {a} d = Memᴰ.append_cases (take n l) (subst (λ k. a ∈ k) (sym (take-append-drop n l)) d)

  -- each of the first is in relation R to each of the others
  pub pairwise_across : (R : A → A → Type 0) (n : ℕ) (l : List A) → Pairwise R l → {a b : A}
      → a ∈ take n l → b ∈ drop n l → R a b
  pairwise_across R zero l h d k = absurd (Memᴰ.not-nil d)
  pairwise_across R (suc n) [] h d k = absurd (Memᴰ.not-nil d)
  pairwise_across R (suc n) (x ∷ l) h {a} {b} (Memᴰ.head e) k =
      subst (λ (y : A). R y b) (sym e) (h.0 b (of-drop n l k))
  pairwise_across R (suc n) (x ∷ l) h (Memᴰ.tail d) k = pairwise_across R n l h.1 d k

  pub pairwise_take : (R : A → A → Type 0) (n : ℕ) (l : List A) → Pairwise R l → Pairwise R (take n l)
  pairwise_take R zero l h = tt
  pairwise_take R (suc n) [] h = tt
  pairwise_take R (suc n) (x ∷ l) h = (λ y d. h.0 y (of-take n l d), pairwise_take R n l h.1)

-- ── What is there ────────────────────────────────────────────────────────────────────────────────

pub of-is_some : {A : Type 0} (o : Option A) → is_some o ≡ true → (t : A) × (o ≡ some t)
of-is_some none h = absurd (false≢true h)
of-is_some (some t) h = (t, refl)

-- what may be there is there exactly if something has a property that it has, and that nothing has where it is not
pub there_iff : {A : Type 0} {P : A → Type 0} (o : Option A) → ((t : A) → o ≡ some t → P t)
    → (o ≡ none → (t : A) → P t → ⊥) → (is_some o ≡ true) ↔ ((t : A) × P t)
there_iff none there none-there = (λ h. absurd (false≢true h), λ w. absurd (none-there refl w.0 w.1))
there_iff (some t) there none-there = (λ _. (t, there t refl), λ _. refl)

-- ── Numbers from a number on ─────────────────────────────────────────────────────────────────────

pub of-numbers_from : (i n : ℕ) {r : ℕ} → r ∈ numbers_from i n → (i ≤ r) × (r < i + n)
of-numbers_from i zero d = elim d [ ]
of-numbers_from i (suc n) {r} (Memᴰ.head e) = omega arith
of-numbers_from i (suc n) {r} (Memᴰ.tail d) = let h = of-numbers_from (suc i) n d in omega arith

pub in-numbers_from : (i n r : ℕ) → i ≤ r → r < i + n → r ∈ numbers_from i n
in-numbers_from i zero r h k = absurd (omega arith)
in-numbers_from i (suc n) r h k = go (passes? (eqb r i)) (in-numbers_from (suc i) n r)
  where
    go : (eqb r i ≡ true) ⊎ (eqb r i ≡ false) → (suc i ≤ r → r < suc i + n → r ∈ numbers_from (suc i) n) → r ∈ i
        ∷ numbers_from (suc i) n
    go (inl e) ih = Memᴰ.head (eqb-true r i e)
    go (inr e) ih = Memᴰ.tail (ih (let ne = eqb-false r i e in omega arith) (omega arith))

pub length-numbers_from : (i n : ℕ) → length (numbers_from i n) ≡ n
length-numbers_from i zero = refl
length-numbers_from i (suc n) = ap suc (length-numbers_from (suc i) n)

-- zeros read with the default 0
pub zeros_at : (n i : ℕ) → get_or {A = ℕ} (replicate n 0) i 0 ≡ 0
zeros_at zero i = refl
zeros_at (suc n) zero = refl
zeros_at (suc n) (suc i) = zeros_at n i

-- ── The test of sameness ─────────────────────────────────────────────────────────────────────────

pub same_true : (a b : List ℕ) → same a b ≡ true → a ≡ b
same_true [] [] h = refl
same_true [] (y ∷ b) h = absurd (false≢true h)
same_true (x ∷ a) [] h = absurd (false≢true h)
same_true (x ∷ a) (y ∷ b) h =
    let w = and_split (eqb x y) (same a b) h in
    ap₂ {C = List ℕ} (λ x y. x ∷ y) (eqb-true x y w.0) (same_true a b w.1)

pub same_refl : (a : List ℕ) → same a a ≡ true
same_refl [] = refl
same_refl (x ∷ a) = and_join (eq-eqb x x refl) (same_refl a)
