-- One island, and one after the other. Assumes nothing.
use Prim.Native.Nat.{ℕ, ◌+◌, ◌*◌, ◌≤◌, zero-le, ◌<◌}
use native.Mathlib.Nat.{not-suc-le-zero}
use native.Mathlib.Omega.{arith}
use mathlib.Core.Path.{◌≡◌, refl, sym, ◌∙◌, ap, subst}
use mathlib.Core.Bool.{Bool, true, false, cond}
use mathlib.Core.Option.{none}
use mathlib.Core.List.{List, ◌++◌}
use lib.Dec.{eqb}
use lib.ListN.{length, get_or, take, drop, length-drop}
use lib.Seq.{take_all, length-take-le}
use lib.Ieee.{Float, nan}
use borrow.Author.Tests.{eq-eqb, ne_eqb, eqb-true}
use Rattle.definition.proofs.Lengths.{mesh-length}
use Rattle.tangent.specs.Slot.{slot_words}
use Rattle.definition.specs.Limits.{work_words}
use Rattle.definition.specs.declared.Corner.{Corner}
use Rattle.definition.specs.Handed.{handed, mesh_of, Handed, used, slots_of, slot_count}
use Rattle.definition.specs.Frames.{frames}
use Rattle.definition.specs.Desk.{finite_corner, has_normal, bad_corner}
use Rattle.definition.specs.Outcome.{answer_words}
use Rattle.laws.proofs.Bridge.{answer_length}
use Rattle.unions.proofs.Stores.{either}
use Rattle.islands.specs.Islands.{island_of, lowest_of, no_island}
use Rattle.islands.specs.Together.{picked, Closed}
use Rattle.islands.proofs.Agree.{touching, lowest-low}
use Rattle.islands.proofs.Sizes.{counted_is}
use Rattle.apart.specs.Lists.{Past, cleared}
use Rattle.apart.specs.Order.{From, nobody, among}
use Rattle.apart.specs.Gather.{normals_in, texture_in, mesh_in, Gathered}
use Rattle.apart.specs.Scatter.{words_for, Scene, Put}
use Rattle.apart.specs.Steps.{Ready, Good, Fit, Room, Kept, Done, DoneBelow}
use Rattle.apart.proofs.Lists.{past-none, past-trans, past_more, front-past, front-is, cleared-again}
use Rattle.apart.proofs.Making.{mesh-cut}
use Rattle.apart.proofs.Frames.{frames-picked, stand-words, all-words-at}
use Rattle.apart.proofs.Call.{accepts, island-good}
use Rattle.apart.proofs.Turns.{island-used}
use Rattle.apart.proofs.Putting.{slots-few}

module _ (mesh : Handed) (h : Float) (order : List ℕ) (r : Ready mesh order) where
  abbrev n : ℕ
  n = length mesh.sizes

  abbrev m : List (List Corner)
  m = mesh_of mesh

  abbrev l : ℕ → ℕ
  l = island_of m

  -- ---- an island that nobody is in

  nobody-there : (t : ℕ) {w : ℕ} → From n l 0 t w → w ≡ 0 → (g : ℕ) → g < n → l g ≡ t → ⊥
  nobody-there t (nobody e) z g k = e g zero-le k
  nobody-there t (Rattle.apart.specs.Order.somebody x a b c e) z g k = absurd (omega arith)

  pub nothing_put : (t : ℕ) → t < n → get_or order (n + t) 0 ≡ 0 → (a : List ℕ) → Done mesh h t a a
  nothing_put t low z a = record {
    past = past-none 0 _ a;
    here = λ g k e. absurd (nobody-there t (r.linked.heads t low) z g k (eqb-true (l g) t e));
    there = λ g k e i j. refl;
  }

  -- ---- an island that is gathered

  module _ (good : Good mesh h) (t : ℕ) (low : t < n) (a w ss : List ℕ) (xs : List Float) (fs : List ℕ) (room : Room mesh.sizes a w ss xs fs) (k c : ℕ) (ss' : List ℕ) (xs' : List Float) (g : Gathered (among l t) mesh n k c ss' xs') (p : Past 0 n ss ss') (p' : Past nan (32 * n) xs xs') where
    abbrev q : ℕ → Bool
    q = among l t

    closed : Closed q m
    unfolding Closed
    closed f x e = ap (λ i. eqb i t) (touching m f x e)

    mesh-is : mesh_in n xs' (take k ss') ≡ picked q 0 m
    mesh-is = g.faces ∙ ap (picked q 0) (take_all n m (omega (arith, mesh-length mesh.positions mesh.normals mesh.texture 0 mesh.sizes)))

    there : length (take k ss') ≡ k
    there = length-take-le k ss' (omega (arith, g.few, p.size, room.faces))

    few-slots : slot_words * slot_count (take k ss') ≤ slot_words * (4 * n)
    few-slots = let e = slots-few (take k ss') in omega (arith, e, there, g.few)

    cut : (j : ℕ) (us : List Float) → j ≤ length us → length (take j us) ≡ j
    cut j us e = length-take-le j us e

    -- what the desk asks of corners holds of the island's
    still-good : (passes : Corner → Bool) → bad_corner passes 0 m ≡ none → bad_corner passes 0 (mesh_of (handed (take k ss') (take (3 * c) xs') (take (3 * c) (normals_in n xs')) (take (2 * c) (texture_in n xs')))) ≡ none
    still-good passes e = ap (bad_corner passes 0) (mesh-cut n c xs' (take k ss') g.corners ∙ mesh-is) ∙ island-good passes q m e

    pub fit : Fit n k c h ss' xs' fs w
    fit =
        let b : c ≤ 4 * n = omega (arith, g.low, g.few) in
        let x = p'.size in
        let y = length-drop (12 * n) xs' in
        let z = length-drop (24 * n) xs' in
        let o = room.numbers in
        record {
          few = r.fits.few;
          low = b;
          faces = omega (arith, g.few, p.size, room.faces);
          long = omega (arith, x, o);
          corners = g.corners;
          accepted =
              accepts (handed (take k ss') (take (3 * c) xs') (take (3 * c) (normals_in n xs')) (take (2 * c) (texture_in n xs'))) h (length fs) (length w)
              (omega (arith, there, g.few, r.fits.few))
              (cut (3 * c) xs' (omega (arith, x, o, b)) ∙ ap (λ i. 3 * i) g.corners)
              (cut (3 * c) (normals_in n xs') (omega (arith, x, y, o, b)) ∙ ap (λ i. 3 * i) g.corners)
              (cut (2 * c) (texture_in n xs') (omega (arith, x, z, o, b)) ∙ ap (λ i. 2 * i) g.corners)
              good.threshold
              (still-good finite_corner good.corners)
              (still-good has_normal good.normals)
              (omega (arith, few-slots, room.frames))
              (omega (arith, there, g.few, room.work));
        }

    module _ (fs' w' : List ℕ) (f : fs' ≡ answer_words (frames h (mesh_in n xs' (take k ss'))) ++ drop (slot_words * slot_count (take k ss')) fs) (u : w' ≡ cleared 0 (work_words * k) w) where
      pub work-same : w' ≡ w
      work-same = u ∙ cleared-again 0 0 (work_words * k) w (omega (arith, g.few, room.work)) (λ x i. room.blank x (omega (arith, g.few)))

      words_long : length (answer_words (frames h (mesh_in n xs' (take k ss')))) ≡ slot_words * slot_count (take k ss')
      words_long = answer_length xs' (normals_in n xs') (texture_in n xs') h (take k ss')

      frames-past : Past 0 (slot_words * (4 * n)) fs fs'
      frames-past =
          subst (λ x. Past 0 (slot_words * (4 * n)) fs x) (sym f)
          (past_more 0 (slot_words * slot_count (take k ss')) (slot_words * (4 * n)) fs _ few-slots
          (front-past 0 (answer_words (frames h (mesh_in n xs' (take k ss')))) (slot_words * slot_count (take k ss')) words_long fs (omega (arith, few-slots, room.frames))))

      pub kept : Kept n ss ss' xs xs' fs fs'
      kept = record { sizes = p; numbers = p'; frames = frames-past }

      frames-are : fs' ≡ answer_words (picked q 0 (frames h m)) ++ drop (slot_words * slot_count (take k ss')) fs
      frames-are = f ∙ ap (λ x. answer_words x ++ drop (slot_words * slot_count (take k ss')) fs) (ap (frames h) mesh-is ∙ frames-picked h q m closed)

      pub scene : Scene mesh.sizes order fs' t
      scene = record {
        l = l;
        W = words_for h m;
        linked = r.linked;
        begun = r.begun;
        fit = λ x i e. island-used mesh t x r.fits.few low i e;
        stand = record {
          long = omega (arith, frames-past.size, room.frames);
          words = λ x i e j o. ap (λ v. get_or v (slot_words * slot_count (picked q 0 (take x mesh.sizes)) + j) 0) frames-are ∙ stand-words q (drop (slot_words * slot_count (take k ss')) fs) h mesh x i e j o;
        };
      }

      -- what scattering leaves
      pub done-of : (b : List ℕ) → ((s : Scene mesh.sizes order fs' t) → Put (among s.l t) mesh.sizes s.W n a b) → Done mesh h t a b
      unfolding scene
      done-of b f = f scene

  -- ---- one island after the other

  pub below_none : (a : List ℕ) → DoneBelow mesh h 0 a a
  below_none a = record { past = past-none 0 _ a; done = λ g k e. absurd (not-suc-le-zero e) }

  pub below_more : (t : ℕ) (a b d : List ℕ) → DoneBelow mesh h t a b → Done mesh h t b d → DoneBelow mesh h (t + 1) a d
  below_more t a b d x y = record {
    past = past-trans 0 (slot_words * slot_count mesh.sizes) a b d x.past y.past;
    done = λ g k e i j. either (l g) t (λ o. y.here g k (eq-eqb (l g) t o) i j) (λ o. y.there g k (ne_eqb (l g) t o) i j ∙ x.done g k (omega (arith, e, o)) i j);
  }

  -- the island of a face of 3 or 4 has a number below n
  island-below : (g : ℕ) → g < n → used (get_or mesh.sizes g 0) ≡ true → l g < n
  unfolding island_of
  island-below g k e = subst (λ b. cond b (lowest_of m g) no_island < n) (sym (counted_is mesh.positions mesh.normals mesh.texture mesh.sizes g k ∙ e)) (let o = lowest-low m g in omega (arith, o))

  -- all of them: the answer is the whole mesh's
  pub below_all : (a b : List ℕ) → slot_words * slot_count mesh.sizes ≤ length a → DoneBelow mesh h n a b → b ≡ answer_words (frames h m) ++ drop (slot_words * slot_count mesh.sizes) a
  unfolding slots_of
  below_all a b room x = front-is 0 (answer_words (frames h m)) (slot_words * slot_count mesh.sizes) (answer_length mesh.positions mesh.normals mesh.texture h mesh.sizes) a room b x.past (all-words-at b h mesh (λ g k i j. go g k i (used (get_or mesh.sizes g 0)) refl j))
    where
      go : (g : ℕ) → g < n → (i : ℕ) (o : Bool) → used (get_or mesh.sizes g 0) ≡ o → i < slot_words * cond o (get_or mesh.sizes g 0) 0 → get_or b (slot_words * slot_count (take g mesh.sizes) + i) 0 ≡ get_or (words_for h m g) i 0
      go g k i true e j = x.done g k (island-below g k e) i (subst (λ o. i < slot_words * cond o (get_or mesh.sizes g 0) 0) (sym e) j)
      go g k i false e j = absurd (omega arith)

-- ---- the lists, one island after the other

pub kept-none : (n : ℕ) (ss : List ℕ) (xs : List Float) (fs : List ℕ) → Kept n ss ss xs xs fs fs
kept-none n ss xs fs = record { sizes = past-none 0 _ ss; numbers = past-none nan _ xs; frames = past-none 0 _ fs }

pub kept_trans : (n : ℕ) (ss ss' ss'' : List ℕ) (xs xs' xs'' : List Float) (fs fs' fs'' : List ℕ) → Kept n ss ss' xs xs' fs fs' → Kept n ss' ss'' xs' xs'' fs' fs'' → Kept n ss ss'' xs xs'' fs fs''
kept_trans n ss ss' ss'' xs xs' xs'' fs fs' fs'' a b = record { sizes = past-trans 0 n ss ss' ss'' a.sizes b.sizes; numbers = past-trans nan (32 * n) xs xs' xs'' a.numbers b.numbers; frames = past-trans 0 (slot_words * (4 * n)) fs fs' fs'' a.frames b.frames }

pub room-kept : (sizes a b w v ss ss' : List ℕ) (xs xs' : List Float) (fs fs' : List ℕ) → length b ≡ length a → v ≡ w → Kept (length sizes) ss ss' xs xs' fs fs' → Room sizes a w ss xs fs → Room sizes b v ss' xs' fs'
room-kept sizes a b w v ss ss' xs xs' fs fs' e d k r = record {
  answer = omega (arith, e, r.answer);
  work = subst (λ x. work_words * length sizes ≤ length x) (sym d) r.work;
  blank = λ x h. ap (λ y. get_or y x 0) d ∙ r.blank x h;
  faces = omega (arith, k.sizes.size, r.faces);
  numbers = omega (arith, k.numbers.size, r.numbers);
  frames = omega (arith, k.frames.size, r.frames);
}
