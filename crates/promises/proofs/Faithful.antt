-- What joins the definition to document 01's own words. Assumes nothing.
use Prim.Native.Nat.{ℕ, zero, suc, ◌+◌, ◌-◌, ◌≤◌, ◌<◌}
use native.Mathlib.Nat.{add-zero, add-suc}
use native.Mathlib.Omega.{arith}
use mathlib.Core.Path.{◌≡◌, refl, sym, ap, ◌∙◌, subst}
use mathlib.Core.Bool.{Bool, false, cond, ◌||◌}
use mathlib.Core.List.{List, [], ◌∷◌, ◌++◌, Memᴰ}
use lib.ListN.{length, get_or}
use lib.Ieee.{Float}
use Rattle.lists.specs.Lists.{has, run}
use Rattle.lists.specs.Every.{Each, Every, every_nil, every_cons}
use Rattle.definition.specs.declared.Corner.{Corner}
use Rattle.definition.specs.declared.Triangle.{Triangle}
use Rattle.definition.specs.Mesh.{Spot, prior, before, corner_of}
use Rattle.definition.specs.Step4Order.{is_sound, sound, spots, welded}
use Rattle.definition.specs.Step5Links.{Link, links, beyond}
use Rattle.definition.specs.Step5Sorted.{sorted_links}
use Rattle.definition.specs.Step6Groups.{Mark, grouped, stops, over_to, over, going, walk, fan, start_at, marks}
use Rattle.definition.specs.Step7Sums.{brought_all}
use Rattle.definition.specs.Frames.{numbered, frames_from, frames_of, frames}
use Rattle.definition.specs.Shuffle.{Shuffle, corners_of, shares}
use Rattle.laws.proofs.Enough.{Near, going-eq, enough, open-fan}
use Rattle.laws.proofs.Closed.{Between, spots-whole, links-sound, over-near}
use Rattle.laws.proofs.Weld.{welded-refl}
use Rattle.laws.proofs.Mutual.{every-at}
use Rattle.laws.proofs.Shuffled.{every-mem, shuffled}
use Rattle.laws.proofs.Numbers.{names-keep, triangles-names}
use Rattle.laws.proofs.Sorted.{sorted-same}
use Rattle.laws.proofs.Twice.{twice}
use Rattle.islands.proofs.Together.{frames-length}
use Rattle.promises.specs.Demand3.{left_at}
use Rattle.promises.specs.Faithful.{all_triangles, sound_triangles, sorted_marks, sorted_frames, times_reached, Promised}
use Rattle.promises.proofs.Demand3.{left_is}
use Rattle.promises.proofs.StepNine as nine

-- ---- links that lead to the same sides give the same marks

module _ (ss : List Triangle) (ls ks : List Link) (B : Between ss ls) (same : (s : Spot) → Memᴰ s (spots ss) → beyond ks s ≡ beyond ls s) where
  -- the corner before one of the triangles' is one of theirs
  prior-in : (s : Spot) → Memᴰ s (spots ss) → Memᴰ (prior s) (spots ss)
  unfolding prior
  prior-in s m = (every-at (spots-whole ss ss (λ s m. m)) m).at (before s.at)

  over-same : (c : Corner) (s : Spot) → Memᴰ s (spots ss) → over ks c s ≡ over ls c s
  unfolding over
  over-same c s m = ap (over_to c) (same s m)

  walk_same : (n : ℕ) (g : Spot) (w : Bool) (ms : List Mark) (s : Spot) → Near ss (corner_of g) s → walk n ks g w ms s ≡ walk n ls g w ms s
  unfolding walk
  walk_same zero g w ms s h = refl
  walk_same (suc n) g w ms s h =
      let c = corner_of g in
      let M = ms ++ (record { spot = s; start = g; orientation = w } ∷ []) in
      let p₁ = over-same c (prior s) (prior-in s h.inside) in
      let p₂ = over-same c s h.inside in
      (λ i. cond (stops ms w s) ms (going (λ ms' s'. walk n ks g w ms' s') (going (λ ms' s'. walk n ks g w ms' s') M (p₁ i)) (p₂ i)))
      ∙ ap (λ r. cond (stops ms w s) ms r)
      (going-eq (Near ss c) (λ ms' s'. walk n ks g w ms' s') (λ ms' s'. walk n ls g w ms' s') (going (λ ms' s'. walk n ks g w ms' s') M (over ls c (prior s))) (λ s' h'. walk_same n g w _ s' h') (over ls c s) (over-near ss ls B c s)
      ∙ ap (λ m. going (λ ms' s'. walk n ls g w ms' s') m (over ls c s))
      (going-eq (Near ss c) (λ ms' s'. walk n ks g w ms' s') (λ ms' s'. walk n ls g w ms' s') M (λ s' h'. walk_same n g w _ s' h') (over ls c (prior s)) (over-near ss ls B c (prior s))))

  start-same : (ms : List Mark) (s : Spot) → Memᴰ s (spots ss) → start_at ss ks ms s ≡ start_at ss ls ms s
  unfolding start_at
  start-same ms s m = ap (λ r. cond (s.tri.any || grouped ms s) ms r) (walk_same (fan ss (corner_of s)) s s.tri.orientation ms s (record { inside = m; joined = welded-refl (corner_of s) }))

  run-same : {xs : List Spot} → Every (λ s. Memᴰ s (spots ss)) xs → (ms : List Mark) → run (start_at ss ks) ms xs ≡ run (start_at ss ls) ms xs
  unfolding run
  run-same every_nil ms = refl
  run-same (every_cons {x = s} {l} m r) ms = ap (λ k. run (start_at ss ks) k l) (start-same ms s m) ∙ run-same r (start_at ss ls ms s)

  marks-same : marks ss ks ≡ marks ss ls
  unfolding marks
  marks-same = run-same (every-mem _ _ (λ x h. h)) []

sorted-marks : (m : List (List Corner)) → sorted_marks m ≡ marks (sound_triangles m) (links (sound_triangles m))
unfolding sorted_marks
sorted-marks m = marks-same (sound_triangles m) (links (sound_triangles m)) (sorted_links (all_triangles m)) (links-sound (sound_triangles m)) (sorted-same (all_triangles m) (unfold sound in names-keep is_sound (triangles-names 0 m)))

sorted-frames : (h : Float) (m : List (List Corner)) → sorted_frames h m ≡ frames h m
unfolding sorted_frames frames frames_of
sorted-frames h m = ap (λ k. frames_from (numbered 0 m) (sound_triangles m) (brought_all h (sound_triangles m) k)) (sorted-marks m)

-- ---- the walk's count
module _ (ss : List Triangle) (g : Spot) (w : Bool) (ms : List Mark) (inside : Memᴰ g (spots ss)) where
  abbrev n₀ : ℕ
  n₀ = fan ss (corner_of g)

  more : (k : ℕ) → walk (n₀ + k) (links ss) g w ms g ≡ walk n₀ (links ss) g w ms g
  more zero = ap (λ n. walk n (links ss) g w ms g) (add-zero n₀)
  more (suc k) =
      let near : (s : Spot) → Near ss (corner_of g) s → Each (Near ss (corner_of g)) (over (links ss) (corner_of g) s) × Each (Near ss (corner_of g)) (over (links ss) (corner_of g) (prior s)) = λ s h. (over-near ss (links ss) (links-sound ss) (corner_of g) s, over-near ss (links ss) (links-sound ss) (corner_of g) (prior s)) in
      ap (λ n. walk n (links ss) g w ms g) (add-suc n₀ k)
      ∙ sym (enough ss (links ss) g w near (n₀ + k) ms g (record { inside = inside; joined = welded-refl (corner_of g) }) (omega (arith, open-fan ss (links ss) g w near ms)))
      ∙ more k

walk-enough : (m : List (List Corner)) (n : ℕ) (g : Spot) (w : Bool) (ms : List Mark) → Memᴰ g (spots (sound_triangles m)) → fan (sound_triangles m) (corner_of g) ≤ n → walk n (links (sound_triangles m)) g w ms g ≡ walk (fan (sound_triangles m) (corner_of g)) (links (sound_triangles m)) g w ms g
walk-enough m n g w ms i h =
    let ss = sound_triangles m in
    let e : n ≡ fan ss (corner_of g) + (n - fan ss (corner_of g)) = omega arith in
    ap (λ k. walk k (links ss) g w ms g) e ∙ more ss g w ms i (n - fan ss (corner_of g))

-- ---- faces that take no slot
none_in : (l : List Corner) → has (λ c. has (welded c) []) l ≡ false
unfolding has
none_in [] = refl
none_in (c ∷ l) = none_in l

none-shared : (a b : List (List Corner)) → corners_of b ≡ [] → shares a b ≡ false
unfolding shares
none-shared a b e = ap (λ l. has (λ c. has (welded c) l) (corners_of a)) e ∙ none_in (corners_of a)

other_faces : (h : Float) (p : List Bool) (a b m : List (List Corner)) → Shuffle p a b m → corners_of b ≡ [] → (n : ℕ) → n < length a → get_or (frames h m) (left_at p n) [] ≡ get_or (frames h a) n []
other_faces h p a b m s e n l = (left_is [] (shuffled h s (none-shared a b e)) n (subst (λ k. n < k) (sym (frames-length h a)) l)).0

pub faithful : Promised
unfolding times_reached
faithful = record { sorted-marks = sorted-marks; sorted-frames = sorted-frames; enough = walk-enough; twice = twice; other_faces = other_faces; copies = λ h m. nine.copies m h; sources = λ h m. nine.sources m h; never_targets = nine.never_targets; keeps_equal = nine.keeps_equal; all_slots = λ h m. nine.all_slots m h; occur = nine.occur }
