-- No objection applies exactly if all is as it is asked. Assumes nothing.
use Prim.Native.Nat.{ℕ, zero, suc, ◌*◌, ◌-◌, ◌/◌, ◌<◌}
use native.Mathlib.Nat.{le_antisymm}
use native.Mathlib.Omega.{arith}
use mathlib.Core.Path.{◌≡◌, refl, sym, subst, ap, ◌∙◌}
use mathlib.Core.Bool.{Bool, true, false}
use mathlib.Core.List.{List}
use lib.Dec.{eqb, ltb}
use lib.ListN.{length, get_or}
use borrow.Author.Tests.{eqb-true, eqb-false, ltb-true, ltb-false}
use Rattle.neighbors.specs.Sides.{end_row}
use Rattle.asked.specs.Lowest.{Clear}
use Rattle.asked.specs.Links.{link_word, Leads, LinksFit}
use Rattle.asked.specs.Groups.{group_word, way_word, Together, Connected, GroupsFit}
use Rattle.asked.specs.Objections.{Misfit, Applies}
use Rattle.asked.proofs.Rows.{not-lt}
use Rattle.asked.proofs.Ways.{together-back}

-- what is not different is the same
pub same-unless : (a b : ℕ) → ((a ≡ b → ⊥) → ⊥) → a ≡ b
same-unless a b h = go (eqb a b) refl
  where
    go : (x : Bool) → eqb a b ≡ x → a ≡ b
    go true e = eqb-true a b e
    go false e = absurd (h (eqb-false a b e))

-- a number is below another, is it, or is above it
pub ordered : {P : Type 0} (a b : ℕ) → (a < b → P) → (a ≡ b → P) → (b < a → P) → P
ordered {P} a b f g h = go (ltb a b) (ltb b a) refl refl
  where
    go : (x y : Bool) → ltb a b ≡ x → ltb b a ≡ y → P
    go true y e i = f (ltb-true a b e)
    go false true e i = h (ltb-true b a i)
    go false false e i = g (le_antisymm (ltb-false b a i) (ltb-false a b e))

module _ (n : ℕ) (same : ℕ → ℕ → Type 0) (any way : ℕ → ℕ) (L G O : List ℕ) where
  abbrev A : ℕ → ℕ → Type 0
  A = Applies n same any way L G O

  -- there is no objection 0
  pub clear-one : Clear A 1
  clear-one zero h x = x.1
  clear-one (suc k) h x = omega arith

  -- ---- links
  module _ (stable : (r q : ℕ) → ((same r q → ⊥) → ⊥) → same r q) where
    pub clear-links : (m : ℕ) → 5 < m → Clear A m → LinksFit (3 * n) same L
    clear-links m l c =
        record {
          inside = inside;
          mutually = back;
          across = λ r q h k. (
            stable r (end_row q) (λ ne. c 3 (omega arith) (r, (h, record { far = q; below = inside r q h k; leads = k; not_opposed = λ o. ne o.0 }))),
            stable (end_row r) q (λ ne. c 3 (omega arith) (r, (h, record { far = q; below = inside r q h k; leads = k; not_opposed = λ o. ne o.1 }))),
          );
          once = λ r s q h k a b. let x = back r q h a in let y = back s q k b in omega arith;
          none_left = λ r q h k f g o. c 5 l (r, (h, record { far = q; below = k; near_free = f; far_free = g; opposed = o }));
        }
      where
        inside : (r q : ℕ) → r < 3 * n → Leads L r q → q < 3 * n
        inside r q h k = let e = not-lt (3 * n) (get_or L r 0) (λ w. c 2 (omega arith) (r, (h, w))) in omega arith

        back : (r q : ℕ) → r < 3 * n → Leads L r q → Leads L q r
        back r q h k = same-unless (get_or L q 0) (suc r) (λ ne. c 4 (omega arith) (r, (h, record { far = q; leads = k; not_back = ne })))

    -- ---- groups
    module _ (turns : (r q : ℕ) → same r q → same q r) (itself : (r : ℕ) → same r r) (c : Clear A 13) where
      some-group : (r : ℕ) → r < 3 * n → any (r / 3) ≡ 0 → group_word G r ≡ 0 → ⊥
      some-group r h e z = c 8 (omega arith) (r, (h, record { firm = e; free = z }))

      one_corner : (r q : ℕ) → r < 3 * n → q < 3 * n → Together G r q → same r q
      one_corner r q h k T =
          ordered r q
          (λ l. stable r q (λ ne. c 9 (omega arith) (q, (k, record { fellow = r; earlier = l; together = T; differs = ne }))))
          (λ e. subst (same r) e (itself r))
          (λ l. turns q r (stable q r (λ ne. c 9 (omega arith) (r, (h, record { fellow = q; earlier = l; together = together-back G r q T; differs = ne })))))

      one_way : (r q : ℕ) → r < 3 * n → q < 3 * n → Together G r q → way_word O r ≡ way_word O q
      one_way r q h k T =
          ordered r q
          (λ l. same-unless (way_word O r) (way_word O q) (λ ne. c 10 (omega arith) (q, (k, record { fellow = r; earlier = l; together = T; differs = ne }))))
          (λ e. ap (way_word O) e)
          (λ l. sym (same-unless (way_word O q) (way_word O r) (λ ne. c 10 (omega arith) (r, (h, record { fellow = q; earlier = l; together = together-back G r q T; differs = ne })))))

      one_group : LinksFit (3 * n) same L → (r q : ℕ) → r < 3 * n → Leads L r q → any (r / 3) ≡ 0 → any (q / 3) ≡ 0 → way_word O r ≡ way_word O q → Together G r (end_row q) × Together G (end_row r) q
      one_group F r q h l a b o =
          let k = F.inside r q h l in
          let none : (Together G r (end_row q) × Together G (end_row r) q → ⊥) → ⊥ = λ p. c 11 (omega arith) (r, (h, record { far = q; below = k; leads = l; near_firm = a; far_firm = b; same = o; parted = p })) in
          let e = same-unless (group_word G r) (group_word G (end_row q)) (λ ne. none (λ t. ne t.0.same)) in
          let f = same-unless (group_word G (end_row r)) (group_word G q) (λ ne. none (λ t. ne t.1.same)) in
          (record { same = e; some = some-group r h a }, record { same = f; some = λ z. some-group q k b (sym f ∙ z) })

      pub clear-groups : Connected n L G → GroupsFit n same any way L G O
      clear-groups C =
          record {
            flags = λ t h. not-lt 1 (get_or O t 0) (λ l. c 6 (omega arith) (t, (h, l)));
            one_corner = one_corner;
            one_way = one_way;
            some = some-group;
            keeps = λ t h e. same-unless (get_or O t 0) (way t) (λ ne. c 7 (omega arith) (t, (h, record { firm = e; differs = ne })));
            one_group = one_group (clear-links 13 (omega arith) c);
            connected = C;
          }

  -- ---- the other way

  -- the lists are as long as they must be
  pub record Long : Type 0 where
    pub links : length L ≡ 3 * n
    pub groups : length G ≡ 3 * n
    pub ways : length O ≡ n

  pub not-misfit : Long → (p : ℕ) → Misfit n L G O p → ⊥
  not-misfit l zero m = m l.links
  not-misfit l (suc zero) m = m l.groups
  not-misfit l (suc (suc zero)) m = m l.ways
  not-misfit l (suc (suc (suc p))) m = m

  pub clear-long : (m : ℕ) → 1 < m → Clear A m → Long
  clear-long m h c =
      record {
        links = same-unless (length L) (3 * n) (λ ne. c 1 h (0, ne));
        groups = same-unless (length G) (3 * n) (λ ne. c 1 h (1, ne));
        ways = same-unless (length O) n (λ ne. c 1 h (2, ne));
      }

  module _ (l : Long) (F : LinksFit (3 * n) same L) where
    not_wide : (r : ℕ) → r < 3 * n → 3 * n < link_word L r → ⊥
    not_wide r h w = let e : Leads L r (get_or L r 0 - 1) = omega arith in let i = F.inside r (get_or L r 0 - 1) h e in omega arith

    pub links-clear : (k p : ℕ) → k < 6 → A k p → ⊥
    links-clear zero p h a = a
    links-clear (suc zero) p h a = not-misfit l p a
    links-clear (suc (suc zero)) p h a = not_wide p a.0 a.1
    links-clear (suc (suc (suc zero))) p h a = a.1.not_opposed (F.across p a.1.far a.0 a.1.leads)
    links-clear (suc (suc (suc (suc zero)))) p h a = a.1.not_back (F.mutually p a.1.far a.0 a.1.leads)
    links-clear (suc (suc (suc (suc (suc zero))))) p h a = F.none_left p a.1.far a.0 a.1.below a.1.near_free a.1.far_free a.1.opposed
    links-clear (suc (suc (suc (suc (suc (suc k)))))) p h a = omega arith

    module _ (K : GroupsFit n same any way L G O) where
      before : (e p : ℕ) → e < p → p < 3 * n → e < 3 * n
      before e p h k = omega arith

      pub all-clear : Clear A 13
      all-clear zero h x = x.1
      all-clear (suc zero) h x = links-clear 1 x.0 (omega arith) x.1
      all-clear (suc (suc zero)) h x = links-clear 2 x.0 (omega arith) x.1
      all-clear (suc (suc (suc zero))) h x = links-clear 3 x.0 (omega arith) x.1
      all-clear (suc (suc (suc (suc zero)))) h x = links-clear 4 x.0 (omega arith) x.1
      all-clear (suc (suc (suc (suc (suc zero))))) h x = links-clear 5 x.0 (omega arith) x.1
      all-clear (suc (suc (suc (suc (suc (suc zero)))))) h x = omega (arith, x.1.1, K.flags x.0 x.1.0)
      all-clear (suc (suc (suc (suc (suc (suc (suc zero))))))) h x = x.1.1.differs (K.keeps x.0 x.1.0 x.1.1.firm)
      all-clear (suc (suc (suc (suc (suc (suc (suc (suc zero)))))))) h x = K.some x.0 x.1.0 x.1.1.firm x.1.1.free
      all-clear (suc (suc (suc (suc (suc (suc (suc (suc (suc zero))))))))) h x = let u = x.1.1 in u.differs (K.one_corner u.fellow x.0 (before u.fellow x.0 u.earlier x.1.0) x.1.0 u.together)
      all-clear (suc (suc (suc (suc (suc (suc (suc (suc (suc (suc zero)))))))))) h x = let u = x.1.1 in u.differs (K.one_way u.fellow x.0 (before u.fellow x.0 u.earlier x.1.0) x.1.0 u.together)
      all-clear (suc (suc (suc (suc (suc (suc (suc (suc (suc (suc (suc zero))))))))))) h x = let u = x.1.1 in u.parted (K.one_group x.0 u.far x.1.0 u.leads u.near_firm u.far_firm u.same)
      all-clear (suc (suc (suc (suc (suc (suc (suc (suc (suc (suc (suc (suc zero)))))))))))) h x = let u = x.1.1 in u.severed (K.connected u.fellow x.0 (before u.fellow x.0 u.earlier x.1.0) x.1.0 u.together)
      all-clear (suc (suc (suc (suc (suc (suc (suc (suc (suc (suc (suc (suc (suc k))))))))))))) h x = omega arith
