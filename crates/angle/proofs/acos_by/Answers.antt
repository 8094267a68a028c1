-- `angle::acos_by` meets its contract: the steps of the definition, each by its function's contract. Assumes nothing.
use Rattle.std.proofs.Common.{◌≡◌, ℕ, Bool, cond, not, T, pos, sym, refl, ap, ◌∙◌, subst}
use lib.Ieee.{Float, nan, binary32, of_bits, of_int, neg, is_nan, le}
use Rattle.bits.specs.Word.{number}
use Rattle.bits.specs.Single.{◌*ᶠ◌, oneᶠ, minus_oneᶠ}
use Rattle.bits.proofs.Nan.{unlike-itself, like-itself, no_nan}
use Rattle.angle.specs.Angle.{angle, cut_cosine, amended_way, top_digits}
use Rattle.angle.proofs.Unit.{cut_in}
use Rattle.angle.proofs.acos_by.Goals as goal

angle-nan : angle nan ≡ nan
unfolding angle is_nan
angle-nan = refl

angle-is : (x : Float) → T (not (is_nan x)) → angle x ≡ of_int binary32 (pos (top_digits (amended_way (cut_cosine x)))) *ᶠ number 0x3149_0fdb
unfolding angle
angle-is x p = ap (λ (b : Bool). cond b nan (of_int binary32 (pos (top_digits (amended_way (cut_cosine x)))) *ᶠ number 0x3149_0fdb)) (no_nan x p)

pub returns-then-x : goal.returns-then-x
returns-then-x c = let e = unlike-itself c.args.x c.if-x.true in e ∙ sym angle-nan ∙ ap angle (sym e)

pub amended-requires : goal.amended-requires
unfolding of_bits neg
amended-requires c =
    let s = c.before.before in
    let i = subst (λ (y : Float). T (le minus_oneᶠ y) × T (le y oneᶠ)) (sym c.cut.ensures) (cut_in s.args.x (like-itself s.args.x c.if-x.false)) in
    (s.requires, i.0, i.1)

pub returns : goal.returns
returns c =
    let a = c.before.before in
    let s = a.before.before.before in
    ap (λ (y : Float). y *ᶠ number 0x3149_0fdb)
    (c.nearest_u32_to_f32.ensures
    ∙ ap (λ (n : ℕ). of_int binary32 (pos n)) (c.top_digits.ensures ∙ ap top_digits (a.amended.ensures ∙ ap amended_way a.cut.ensures)))
    ∙ sym (angle-is s.args.x (like-itself s.args.x a.if-x.false))
