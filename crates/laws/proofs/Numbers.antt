-- The triangles of a mesh have names of their own. Assumes nothing.
use Prim.Native.Nat.{ℕ, suc, ◌≤◌}
use native.Mathlib.Omega.{arith}
use mathlib.Core.Path.{◌≡◌, refl, ◌∙◌, ap}
use mathlib.Core.Bool.{Bool, true, false, cond, ◌&&◌, beq, and-false}
use mathlib.Core.List.{List, [], ◌∷◌, ◌++◌, Memᴰ}
use mathlib.Core.Option.{some}
use lib.Dec.{eqb}
use borrow.Author.Tests.{ne_eqb}
use Rattle.definition.specs.declared.Corner.{Corner}
use Rattle.definition.specs.declared.Triangle.{Triangle}
use Rattle.definition.specs.Frames.{numbered}
use Rattle.lists.specs.Lists.{keep}
use Rattle.definition.specs.Mesh.{Spot, same_triangle}
use Rattle.definition.specs.Step1Cut.{cut02}
use Rattle.definition.specs.Step4Order.{is_sound, sound, spots}
use Rattle.definition.specs.Step5Links.{links, beyond}
use Rattle.definition.specs.Triangles.{make, settled, pair, quad, usable, pieces, triangles}
use Rattle.lists.specs.Every.{Every, every_nil, every_cons}
use Rattle.laws.proofs.Part.{every_map, every_append, every-keep}
use Rattle.laws.proofs.Pieces.{Of, pieces-of}
use Rattle.definition.specs.Names.{Names, names_nil, names_cons}
use Rattle.laws.proofs.Mutual.{mutual'}

names-append : {l k : List Triangle} → Names l → Every (λ t. Every (λ u. same_triangle t u ≡ false) k) l → Names k → Names (l ++ k)
names-append names_nil every_nil s = s
names-append (names_cons h r) (every_cons g e) s = names_cons (every_append h g) (names-append r e s)

pub names-keep : (p : Triangle → Bool) {l : List Triangle} → Names l → Names (keep p l)
unfolding keep
names-keep p names_nil = names_nil
names-keep p (names_cons {t} {ts} h r) = go (p t) (every-keep p h) (names-keep p r)
  where
    go : (b : Bool) → Every (λ k. same_triangle t k ≡ false) (keep p ts) → Names (keep p ts) → Names (cond b (t ∷ keep p ts) (keep p ts))
    go true g s = names_cons g s
    go false g s = s

-- a quad's two triangles: first and second
pair-names : (s t : Triangle) → s.second ≡ false → t.second ≡ true → Names (pair s t)
unfolding pair settled same_triangle
pair-names s t e f = names_cons (every_cons (ap (λ b. eqb s.face t.face && b) (ap (λ b. beq b t.second) e ∙ ap (beq false) f) ∙ and-false (eqb s.face t.face)) every_nil) (names_cons every_nil names_nil)

names-cond : (b : Bool) {l k : List Triangle} → Names l → Names k → Names (cond b l k)
names-cond true r s = r
names-cond false r s = s

pieces-names : (n : ℕ) (cs : List Corner) → Names (pieces n cs)
unfolding pieces quad make
pieces-names n [] = names_nil
pieces-names n (c0 ∷ []) = names_nil
pieces-names n (c0 ∷ c1 ∷ []) = names_nil
pieces-names n (c0 ∷ c1 ∷ c2 ∷ []) = names_cons every_nil names_nil
pieces-names n (c0 ∷ c1 ∷ c2 ∷ c3 ∷ []) = names-cond (cut02 c0 c1 c2 c3) (pair-names _ _ refl refl) (pair-names _ _ refl refl)
pieces-names n (c0 ∷ c1 ∷ c2 ∷ c3 ∷ c4 ∷ l) = names_nil

every-unit : (l : List Corner) → Every (λ c. Unit {0}) l
every-unit [] = every_nil
every-unit (c ∷ l) = every_cons tt (every-unit l)

pub pieces-face : (n : ℕ) (cs : List Corner) → Every (Of n (λ c. Unit {0})) (pieces n cs)
pieces-face n cs = pieces-of n (λ c. Unit {0}) cs (every-unit (usable cs))

-- later faces have higher numbers
later : (n : ℕ) (m : List (List Corner)) → Every (λ t. n ≤ t.face) (triangles (numbered n m))
unfolding triangles numbered
later n [] = every_nil
later n (c ∷ m) = every_append (every_map (λ t h. at_least t h.name) (pieces-face n c)) (every_map (λ t h. below t h) (later (suc n) m))
  where
    at_least : (t : Triangle) → t.face ≡ n → n ≤ t.face
    at_least t e = omega arith

    below : (t : Triangle) → suc n ≤ t.face → n ≤ t.face
    below t h = omega arith

other-face : (n : ℕ) (t u : Triangle) → t.face ≡ n → suc n ≤ u.face → same_triangle t u ≡ false
unfolding same_triangle
other-face n t u e h = ap (λ b. b && beq t.second u.second) (ne_eqb t.face u.face (λ q. omega arith))

pub triangles-names : (n : ℕ) (m : List (List Corner)) → Names (triangles (numbered n m))
unfolding triangles numbered
triangles-names n [] = names_nil
triangles-names n (c ∷ m) =
    names-append (pieces-names n c)
    (every_map (λ t h. every_map (λ u g. other-face n t u h.name g) (later (suc n) m)) (pieces-face n c))
    (triangles-names (suc n) m)

-- E11: every link of a mesh is mutual
pub links-mutual : (m : List (List Corner)) (s t : Spot) → Memᴰ s (spots (sound (triangles (numbered 0 m)))) → beyond (links (sound (triangles (numbered 0 m)))) s ≡ some t → beyond (links (sound (triangles (numbered 0 m)))) t ≡ some s
unfolding sound
links-mutual m s t h e = mutual' (sound (triangles (numbered 0 m))) (names-keep is_sound (triangles-names 0 m)) s t h e
