-- Laws of `first_of`, the first of some tests that applies: test by test, of two lists joined, of tests none of which applies, `NoneApplies`, and of
-- two lists that agree as far as the first test that applies, `Alike`.
use Rattle.std.specs.Prelude.{ℕ, ◌≡◌, refl, true, false, List, [], ◌∷◌, ◌++◌}
use Rattle.basics.specs.Core.{sym, ◌∙◌, true≢false, ⊎_elim}
use Rattle.basics.specs.Numbers.{true_or_false}
use Rattle.basics.specs.Members.{Each}
use Rattle.model.specs.declared.Refusal.{Refusal}
use Rattle.model.specs.Answers.{Answer}
use Rattle.std.specs.Prelude.{Ok, Err}
use Rattle.model.specs.Specs.{Test, first_of}

pub first_hit : (t : Test) (ts : List Test) (a : Answer) → t.applies ≡ true → first_of (t ∷ ts) a ≡ Err t.refusal
unfolding first_of
first_hit t ts a e = rw e

pub first_skip : (t : Test) (ts : List Test) (a : Answer) → t.applies ≡ false → first_of (t ∷ ts) a ≡ first_of ts a
unfolding first_of
first_skip t ts a e = rw e

pub first_append : (ts us : List Test) (a : Answer) → first_of (ts ++ us) a ≡ first_of ts (first_of us a)
unfolding first_of
first_append [] us a = refl
first_append (t ∷ ts) us a = rw (first_append ts us a)

-- Where some of the tests already give a refusal, what follows them does not matter.
pub first_refused :
    (ts : List Test) (a : Answer) {b : Answer} {x : Refusal} {n : ℕ} → b ≡ Ok n → first_of ts b ≡ Err x → first_of ts a ≡ Err x
unfolding first_of
first_refused [] a {b} {x} {n} h e = cc
first_refused (t ∷ ts) a {b} h e =
    ⊎_elim
    (λ (y : t.applies ≡ true). rw y (sym (first_hit t ts b y) ∙ e))
    (λ (y : t.applies ≡ false). rw y (first_refused ts a h (sym (first_skip t ts b y) ∙ e)))
    (true_or_false t.applies)

-- None of some tests applies, test by test.
abbrev pub NoneApplies : List Test → Type 0
NoneApplies ts = Each (λ t. t.applies ≡ false) ts

-- Where the answer is a cost, no test applies.
pub none_applies : (ts : List Test) (a : Answer) {n : ℕ} → first_of ts a ≡ Ok n → NoneApplies ts
none_applies [] a e = tt
none_applies (t ∷ ts) a e =
    ⊎_elim
    (λ (y : t.applies ≡ true). let hit = first_hit t ts a y in let none : t.applies ≡ false = cc in absurd (true≢false (sym y ∙ none)))
    (λ (y : t.applies ≡ false). (y, none_applies ts a (sym (first_skip t ts a y) ∙ e)))
    (true_or_false t.applies)

-- Where no test applies, the answer is that of a success.
pub first_none : (ts : List Test) (a : Answer) → NoneApplies ts → first_of ts a ≡ a
unfolding first_of
first_none [] a none = refl
first_none (t ∷ ts) a (this, rest) = rw this (first_none ts a rest)

-- Where some of the tests give a cost, the answer is that of what follows them.
pub first_through : (ts : List Test) (a b : Answer) {n : ℕ} → first_of ts b ≡ Ok n → first_of ts a ≡ a
first_through ts a b e = first_none ts a (none_applies ts b e)

-- Two lists of tests agree as far as the first that applies, and so do the answers where none applies.
unfoldable pub Alike : (ts us : List Test) → (a b : Answer) → Type 0
Alike [] [] a b = a ≡ b
Alike [] (u ∷ us) a b = ⊥
Alike (t ∷ ts) [] a b = ⊥
Alike (t ∷ ts) (u ∷ us) a b = (t.refusal ≡ u.refusal) × ((t.applies ≡ u.applies) × (t.applies ≡ false → Alike ts us a b))

-- Behind the same tests two lists of tests agree as they do without them.
pub alike_behind : (ts us vs : List Test) (a b : Answer) → Alike us vs a b → Alike (ts ++ us) (ts ++ vs) a b
unfolding Alike
alike_behind [] us vs a b e = e
alike_behind (t ∷ ts) us vs a b e = (refl, (refl, λ h. alike_behind ts us vs a b e))

-- Tests that agree so far give the same first refusal or the same answer.
pub first_alike : (ts us : List Test) (a b : Answer) → Alike ts us a b → first_of ts a ≡ first_of us b
unfolding first_of Alike
first_alike [] [] a b e = e
first_alike [] (u ∷ us) a b e = absurd e
first_alike (t ∷ ts) [] a b e = absurd e
first_alike (t ∷ ts) (u ∷ us) a b (named, (same, rest)) =
    ⊎_elim
    (λ (h : t.applies ≡ true). let k : u.applies ≡ true = sym same ∙ h in rw (h, k, named))
    (λ (h : t.applies ≡ false). let k : u.applies ≡ false = sym same ∙ h in rw (h, k) (first_alike ts us a b (rest h)))
    (true_or_false t.applies)
