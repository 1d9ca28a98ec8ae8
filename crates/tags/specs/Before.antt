-- The map of local tags before 02's C-20, that the tag is as before, and what held says of it. Assumes nothing.
use Rattle.std.specs.Prelude.{ℕ, Bool, true, false, cond, not, ◌&&◌, ◌||◌, ◌≡◌, refl, ℤ, pos, negsuc}
use Rattle.std.proofs.Common.{sym, ap, ◌∙◌}
use Rattle.lists.specs.Every.{no_way, not_done}
use Rattle.lists.specs.Walk.{done, refused}
use Rattle.tags.specs.Tags.{Tag, Clock, Answer, Mapped, Shifted, at, same_tag, earlier, delayed, shifted, settled_tag, settled, flagged, held_back, placed, to_global, tag_only, image_of, held_in}

-- ---- as it was

abbrev pub old_held_back : Clock → ℤ → ℕ → Bool
old_held_back c (pos o) m = earlier (at o m) c.G || (same_tag (at o m) c.G && not c.allowed)
old_held_back c (negsuc o) m = true

unfoldable pub old_to_global : Clock → Tag → Answer
old_to_global c x =
    cond (same_tag c.G c.L && c.allowed) (done x)
    (let p = shifted c.G c.L x in cond (old_held_back c p.offset p.microstep) (delayed c.G) (settled p))

-- what the telling of a day said
unfoldable pub old_is_held : Clock → Tag → Bool
old_is_held c x = not (same_tag c.G c.L && c.allowed) && (let p = shifted c.G c.L x in old_held_back c p.offset p.microstep)

-- ---- as it is

flag_off : (held : Bool) (a : Answer) → tag_only (flagged held a) ≡ a
flag_off held (done t) = refl
flag_off held (refused n) = refl

flag_is : (held : Bool) (a : Answer) {m : Mapped} → flagged held a ≡ done m → held ≡ m.held
flag_is held (done t) e = ap held_in e
flag_is held (refused n) e = not_done e

flag_tag : (held : Bool) (a : Answer) {m : Mapped} → flagged held a ≡ done m → a ≡ done m.tag
flag_tag held a e = sym (flag_off held a) ∙ ap tag_only e

module _ (c : Clock) where
  placed_tag : (o : ℤ) (m : ℕ) → tag_only (placed c.G c.allowed o m) ≡ cond (old_held_back c o m) (delayed c.G) (settled_tag o m)
  placed_tag (negsuc o) m = flag_off true (delayed c.G)
  placed_tag (pos o) m = go (held_back c.G c.allowed (at o m))
    where
      go : (b : Bool) → tag_only (cond b (flagged true (delayed c.G)) (flagged false (settled_tag (pos o) m))) ≡ cond b (delayed c.G) (settled_tag (pos o) m)
      go true = flag_off true (delayed c.G)
      go false = flag_off false (settled_tag (pos o) m)

  placed_next : (o : ℤ) (m : ℕ) {r : Mapped} → placed c.G c.allowed o m ≡ done r → r.held ≡ true → delayed c.G ≡ done r.tag
  placed_next (negsuc o) m e y = flag_tag true (delayed c.G) e
  placed_next (pos o) m e y = go (held_back c.G c.allowed (at o m)) e y
    where
      go : (b : Bool) {r : Mapped} → cond b (flagged true (delayed c.G)) (flagged false (settled_tag (pos o) m)) ≡ done r → r.held ≡ true → delayed c.G ≡ done r.tag
      go true e y = flag_tag true (delayed c.G) e
      go false e y = no_way (flag_is false (settled_tag (pos o) m) e ∙ y)

  placed_held : (o : ℤ) (m : ℕ) {r : Mapped} → placed c.G c.allowed o m ≡ done r → r.held ≡ old_held_back c o m
  placed_held (negsuc o) m e = sym (flag_is true (delayed c.G) e)
  placed_held (pos o) m e = go (held_back c.G c.allowed (at o m)) e
    where
      go : (b : Bool) {r : Mapped} → cond b (flagged true (delayed c.G)) (flagged false (settled_tag (pos o) m)) ≡ done r → r.held ≡ b
      go true e = sym (flag_is true (delayed c.G) e)
      go false e = sym (flag_is false (settled_tag (pos o) m) e)

  -- "The tag itself is as before"
  pub as_before : (x : Tag) → image_of c x ≡ old_to_global c x
  unfolding to_global old_to_global
  as_before x = go (same_tag c.G c.L && c.allowed)
    where
      p : Shifted
      p = shifted c.G c.L x

      go : (b : Bool) → tag_only (cond b (flagged false (done x)) (placed c.G c.allowed p.offset p.microstep)) ≡
          cond b (done x) (cond (old_held_back c p.offset p.microstep) (delayed c.G) (settled p))
      go true = refl
      go false = placed_tag p.offset p.microstep

  -- and so is what the telling calls held back, of a tag that has an image
  pub held_as_before : (x : Tag) {r : Mapped} → to_global c x ≡ done r → r.held ≡ old_is_held c x
  unfolding to_global old_is_held
  held_as_before x e = go (same_tag c.G c.L && c.allowed) e
    where
      p : Shifted
      p = shifted c.G c.L x

      go : (b : Bool) {r : Mapped} → cond b (flagged false (done x)) (placed c.G c.allowed p.offset p.microstep) ≡ done r →
          r.held ≡ (not b && old_held_back c p.offset p.microstep)
      go true e = sym (ap held_in e)
      go false e = placed_held p.offset p.microstep e

  -- what is held back is handed out at "the activation's next microstep"
  pub held_next : (x : Tag) {r : Mapped} → to_global c x ≡ done r → r.held ≡ true → delayed c.G ≡ done r.tag
  unfolding to_global
  held_next x e y = go (same_tag c.G c.L && c.allowed) e y
    where
      p : Shifted
      p = shifted c.G c.L x

      go : (b : Bool) {r : Mapped} → cond b (flagged false (done x)) (placed c.G c.allowed p.offset p.microstep) ≡ done r → r.held ≡ true → delayed c.G ≡ done r.tag
      go true e y = no_way (ap held_in e ∙ y)
      go false e y = placed_next p.offset p.microstep e y
