-- What the two calls say, by what the desk says. Assumes nothing.
use Prim.Native.Nat.{ℕ, ◌*◌, ◌≤◌}
use mathlib.Core.Path.{◌≡◌, refl, sym, ap, ◌∙◌}
use mathlib.Core.Bool.{Bool, true, false, ◌||◌, true≢false}
use mathlib.Core.List.{List}
use mathlib.Core.Option.{Option, none, some, none-ne-some}
use lib.Dec.{ltb}
use lib.ListN.{length}
use borrow.Author.Tests.{ltb-false}
use Rattle.definition.specs.Handed.{Handed}
use Rattle.definition.specs.Desk.{Row}
use Rattle.std.specs.Prelude.{Ok, Err}
use Rattle.desk.specs.declared.Refusal.{Refusal}
use Rattle.desk.specs.declared.Refusal.TheVariants.{ShortOwn}
use Rattle.desk.specs.Verdict.{Verdict, as_verdict, told, number_of, place_of}
use Rattle.desk.proofs.Telling.{number-some}
use Rattle.examine.specs.declared.Examined.{Examined}
use Rattle.examine.specs.Contract.{refusal, owned_of, too_short, Decided, Examines, HandedOut, Hands}

-- a refusal is the desk's row
pub told_row : (o : Option Row) (r : Refusal) → told (Err r) ≡ as_verdict o → (x : Row) → o ≡ some x → (number_of r ≡ x.number) × (place_of r ≡ x.place)
unfolding as_verdict told
told_row o r e x s = let f = e ∙ ap as_verdict s in (ap (λ (v : Verdict). v.number) f, ap (λ (v : Verdict). v.place) f)

pub told-some : (o : Option Row) (r : Refusal) → told (Err r) ≡ as_verdict o → o ≡ none → ⊥
unfolding as_verdict told
told-some o r e n = number-some r (ap (λ (v : Verdict). v.number) (e ∙ ap as_verdict n))

module _ (mesh : Handed) (L G O w : List ℕ) where
  abbrev desk : Option Row
  desk = refusal mesh (length w)

  pub examines-refused : (r : Refusal) (y : Examined) → told (Err r) ≡ as_verdict desk → y ≡ record { refusal = number_of r; objection = 0; place = place_of r } → Examines mesh L G O w y w
  examines-refused r y e q =
      record {
        refused = λ x s. let f = told_row desk r e x s in record { number = ap (λ (z : Examined). z.refusal) q ∙ f.0; none = ap (λ (z : Examined). z.objection) q; place = ap (λ (z : Examined). z.place) q ∙ f.1; work = refl };
        decided = λ n. absurd (told-some desk r e n);
      }

  pub examines-decided : (r : Examined) (u : List ℕ) → desk ≡ none → Decided mesh L G O w r u → Examines mesh L G O w r u
  examines-decided r u n D = record { refused = λ x s. absurd (none-ne-some x (sym n ∙ s)); decided = λ _. D }

  -- ---- our own lists

  pub hands-refused : (r : Refusal) → told (Err r) ≡ as_verdict desk → Hands mesh L G O w (owned_of (Err r)) L G O w
  unfolding owned_of
  hands-refused r e =
      record {
        refused = λ x s. let f = told_row desk r e x s in record { is = λ i. record { number = f.0 i; place = f.1 i; sound = 0 }; links = refl; groups = refl; ways = refl; work = refl };
        short = λ n. absurd (told-some desk r e n);
        given = λ n. absurd (told-some desk r e n);
      }

  module _ (b : Bool) (s : b ≡ too_short (length mesh.sizes) (length L) (length G) (length O)) (n : desk ≡ none) where
    pub hands-short : b ≡ true → Hands mesh L G O w (owned_of (Err ShortOwn)) L G O w
    unfolding owned_of number_of place_of
    hands-short t =
        record {
          refused = λ x f. absurd (none-ne-some x (sym n ∙ f));
          short = λ _ _. record { is = refl; links = refl; groups = refl; ways = refl; work = refl };
          given = λ _ f. absurd (true≢false (sym t ∙ (s ∙ f)));
        }

    pub hands-given : (k : ℕ) (L' G' O' u : List ℕ) → b ≡ false → HandedOut mesh L G O w k L' G' O' u → Hands mesh L G O w (owned_of (Ok k)) L' G' O' u
    unfolding owned_of
    hands-given k L' G' O' u t h = record { refused = λ x f. absurd (none-ne-some x (sym n ∙ f)); short = λ _ f. absurd (true≢false (sym f ∙ (sym s ∙ t))); given = λ _ _. record { number = refl; place = refl; handed = h } }

-- lists that are long enough
pub long-enough : (f l g o : ℕ) → too_short f l g o ≡ false → (6 * f ≤ l) × (6 * f ≤ g) × (2 * f ≤ o)
unfolding too_short
long-enough f l g o e = go (ltb l (6 * f)) (ltb g (6 * f)) (ltb o (2 * f)) refl refl refl e
  where
    go : (a b c : Bool) → ltb l (6 * f) ≡ a → ltb g (6 * f) ≡ b → ltb o (2 * f) ≡ c → (a || b || c) ≡ false → (6 * f ≤ l) × (6 * f ≤ g) × (2 * f ≤ o)
    go true b c p q r e = absurd (true≢false e)
    go false true c p q r e = absurd (true≢false e)
    go false false true p q r e = absurd (true≢false e)
    go false false false p q r e = (ltb-false l (6 * f) p, ltb-false g (6 * f) q, ltb-false o (2 * f) r)
