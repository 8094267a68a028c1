-- What is asked depends on nothing but which corners are welded, and on the words of the triangles. Assumes nothing.
use Prim.Native.Nat.{ℕ, zero, suc, ◌*◌, ◌/◌, ◌<◌}
use native.Mathlib.Omega.{arith}
use mathlib.Core.Path.{◌≡◌, sym, ◌∙◌}
use mathlib.Core.List.{List}
use Rattle.neighbors.specs.Sides.{end_row}
use Rattle.neighbors.proofs.Sided.{end_lt}
use Rattle.view.proofs.Rows.{tri-lt}
use Rattle.asked.specs.Links.{Opposed, LinksFit}
use Rattle.asked.specs.Groups.{GroupsFit}
use Rattle.asked.specs.Objections.{Applies}

module _ (n : ℕ) (same same' : ℕ → ℕ → Type 0) (L : List ℕ) (to : (r q : ℕ) → r < 3 * n → q < 3 * n → same r q → same' r q) (back : (r q : ℕ) → r < 3 * n → q < 3 * n → same' r q → same r q) where
  opposed-to : (r q : ℕ) → r < 3 * n → q < 3 * n → Opposed same r q → Opposed same' r q
  opposed-to r q h k o = (to r (end_row q) h (end_lt q n k) o.0, to (end_row r) q (end_lt r n h) k o.1)

  opposed-back : (r q : ℕ) → r < 3 * n → q < 3 * n → Opposed same' r q → Opposed same r q
  opposed-back r q h k o = (back r (end_row q) h (end_lt q n k) o.0, back (end_row r) q (end_lt r n h) k o.1)

  pub links-like : LinksFit (3 * n) same L → LinksFit (3 * n) same' L
  links-like F =
      record {
        inside = F.inside;
        mutually = F.mutually;
        across = λ r q h l. opposed-to r q h (F.inside r q h l) (F.across r q h l);
        once = F.once;
        none_left = λ r q h k f g o. F.none_left r q h k f g (opposed-back r q h k o);
      }

  module _ (any any' way way' : ℕ → ℕ) (G O : List ℕ) (loose : (t : ℕ) → t < n → any t ≡ any' t) (turned : (t : ℕ) → t < n → way t ≡ way' t) where
    loose-row : (r : ℕ) → r < 3 * n → any (r / 3) ≡ any' (r / 3)
    loose-row r h = loose (r / 3) (tri-lt r n h)

    pub groups-like : LinksFit (3 * n) same L → GroupsFit n same any way L G O → GroupsFit n same' any' way' L G O
    groups-like F K =
        record {
          flags = K.flags;
          one_corner = λ r q h k T. to r q h k (K.one_corner r q h k T);
          one_way = K.one_way;
          some = λ r h e. K.some r h (loose-row r h ∙ e);
          keeps = λ t h e. K.keeps t h (loose t h ∙ e) ∙ turned t h;
          one_group = λ r q h l a b o. K.one_group r q h l (loose-row r h ∙ a) (loose-row q (F.inside r q h l) ∙ b) o;
          connected = K.connected;
        }

    pub applies-like : (k p : ℕ) → k < 13 → Applies n same any way L G O k p → Applies n same' any' way' L G O k p
    applies-like zero p l a = a
    applies-like (suc zero) p l a = a
    applies-like (suc (suc zero)) p l a = a
    applies-like (suc (suc (suc zero))) p l a =
        (a.0, record { far = a.1.far; below = a.1.below; leads = a.1.leads; not_opposed = λ o. a.1.not_opposed (opposed-back p a.1.far a.0 a.1.below o) })
    applies-like (suc (suc (suc (suc zero)))) p l a = a
    applies-like (suc (suc (suc (suc (suc zero))))) p l a =
        (a.0, record { far = a.1.far; below = a.1.below; near_free = a.1.near_free; far_free = a.1.far_free; opposed = opposed-to p a.1.far a.0 a.1.below a.1.opposed })
    applies-like (suc (suc (suc (suc (suc (suc zero)))))) p l a = a
    applies-like (suc (suc (suc (suc (suc (suc (suc zero))))))) p l a = (a.0, record { firm = sym (loose p a.0) ∙ a.1.firm; differs = λ e. a.1.differs (e ∙ sym (turned p a.0)) })
    applies-like (suc (suc (suc (suc (suc (suc (suc (suc zero)))))))) p l a = (a.0, record { firm = sym (loose-row p a.0) ∙ a.1.firm; free = a.1.free })
    applies-like (suc (suc (suc (suc (suc (suc (suc (suc (suc zero))))))))) p l a =
        let u = a.1 in
        let i = u.earlier in
        (a.0, record { fellow = u.fellow; earlier = i; together = u.together; differs = λ s. u.differs (back u.fellow p (omega (arith, i, a.0)) a.0 s) })
    applies-like (suc (suc (suc (suc (suc (suc (suc (suc (suc (suc zero)))))))))) p l a = a
    applies-like (suc (suc (suc (suc (suc (suc (suc (suc (suc (suc (suc zero))))))))))) p l a =
        let u = a.1 in (
          a.0,
          record {
            far = u.far;
            below = u.below;
            leads = u.leads;
            near_firm = sym (loose-row p a.0) ∙ u.near_firm;
            far_firm = sym (loose-row u.far u.below) ∙ u.far_firm;
            same = u.same;
            parted = u.parted;
          },
        )
    applies-like (suc (suc (suc (suc (suc (suc (suc (suc (suc (suc (suc (suc zero)))))))))))) p l a = a
    applies-like (suc (suc (suc (suc (suc (suc (suc (suc (suc (suc (suc (suc (suc k))))))))))))) p l a = absurd (omega arith)
