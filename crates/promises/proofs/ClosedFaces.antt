-- Faces that are closed under touching keep their frames. Assumes nothing.
use Prim.Native.Nat.{ℕ, zero, suc, ◌+◌, ◌<◌}
use native.Mathlib.Nat.{le_of_suc-le-suc, not-suc-le-zero}
use native.Mathlib.Omega.{arith}
use mathlib.Core.Path.{◌≡◌, sym, ◌∙◌, ap, subst}
use mathlib.Core.Bool.{Bool, true, false, cond, false≢true}
use mathlib.Core.List.{List, [], ◌∷◌, flat_map}
use lib.ListN.{length, get_or, get_or-map}
use Rattle.definition.proofs.Lengths.{mesh-length}
use Rattle.tangent.specs.Slot as slot
use Rattle.definition.specs.Frames.{frames}
use Rattle.islands.specs.Together.{picked, rank, Closed}
use Rattle.islands.proofs.Agree.{touching}
use Rattle.islands.proofs.Together.{closed_frames}
use Rattle.definition.specs.Handed.{Call, mesh_of}
use Rattle.promises.specs.PublicCall.{remains}
use Rattle.promises.specs.ClosedFaces.{Promised}
use Rattle.promises.proofs.PublicCall.{answers}
use Rattle.promises.proofs.Demand3.{face_words, face-is}

-- the number of those that pass before one that passes is below that of all of them
rank_below : {X : Type 0} (q : ℕ → Bool) (n : ℕ) (l : List X) (f : ℕ) → f < length l → q (n + f) ≡ true → rank q n f < length (picked q n l)
unfolding rank picked
rank_below q n [] f h e = absurd (not-suc-le-zero h)
rank_below q n (x ∷ l) zero h e = go (q n) (ap q (omega arith) ∙ e)
  where
    go : (b : Bool) → b ≡ true → 0 < length (cond b (x ∷ picked q (suc n) l) (picked q (suc n) l))
    go true e = omega arith
    go false e = absurd (false≢true e)
rank_below q n (x ∷ l) (suc f) h e = go (q n) (rank_below q (suc n) l f (le_of_suc-le-suc h) (ap q (omega arith) ∙ e))
  where
    go : (b : Bool) → rank q (suc n) f < length (picked q (suc n) l) → cond b (suc (rank q (suc n) f)) (rank q (suc n) f) < length (cond b (x ∷ picked q (suc n) l) (picked q (suc n) l))
    go true r = omega arith
    go false r = r

-- the words of a face, from its frames
words_of : (x : Call) (f : ℕ) → get_or (face_words x) f [] ≡ flat_map slot.words (get_or (frames x.threshold (mesh_of x.mesh)) f [])
unfolding face_words flat_map
words_of x f = get_or-map (flat_map slot.words) (frames x.threshold (mesh_of x.mesh)) f []

faces-many : (x : Call) → length (mesh_of x.mesh) ≡ length x.mesh.sizes
faces-many x = mesh-length x.mesh.positions x.mesh.normals x.mesh.texture 0 x.mesh.sizes

pub closed_faces : Promised
unfolding Closed Rattle.mikktspace.specs.Contract.left
closed_faces = record {
  closed_frames = closed_frames;
  closed_words = λ q a b ma mb c e t na nb f h p.
      let m = mesh_of a.mesh in
      let k : f < length m = subst (λ n. f < n) (sym (faces-many a)) h in
      let z : q (0 + f) ≡ q f = ap q (omega arith) in
      let r : rank q 0 f < length b.mesh.sizes = subst (λ n. rank q 0 f < n) (sym (ap length e) ∙ faces-many b) (rank_below q 0 m f k (z ∙ p)) in
      face-is a (remains ma) (answers a ma) na f h
      ∙ words_of a f
      ∙ ap (flat_map slot.words) (closed_frames a.threshold q m c f k p ∙ (λ i. get_or (frames (sym t i) (sym e i)) (rank q 0 f) []))
      ∙ sym (words_of b (rank q 0 f))
      ∙ sym (face-is b (remains mb) (answers b mb) nb (rank q 0 f) r);
  whole_islands = λ m p f g t. ap p (touching m f g t);
}
