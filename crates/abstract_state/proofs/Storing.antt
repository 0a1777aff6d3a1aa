-- What the code of a store comes to is what its definition says.
use Rattle.std.proofs.Common.{◌≡◌, ℕ, zero, suc, ◌+◌, ◌^◌, ◌<◌, Bool, true, false, cond, List, [], ◌∷◌, ◌++◌, length, refl, sym, ◌∙◌, ap, arith, ℤ, pos, ◌+ℤ◌}
use Rattle.std.specs.Prelude.{is_some, ◌==◌, ◌||◌}
use Rattle.std.specs.List.{list_any, range_with_len}
use Rattle.std.proofs.lemmas.Bool.{false≢true}
use Rattle.std.proofs.lemmas.Grind.{common_steps}
use Rattle.bit_words.specs.declared.width.Width.{Width}
use Rattle.bit_words.specs.Width.{bytes_of}
use Rattle.memory_map.specs.declared.span.Span.{Span}
use Rattle.memory_map.specs.Range.{byte_at, maps_all, may_write, may_write_any, may_write_each}
use Rattle.memory_map.specs.Spans.{join_span, runs_of}
use Rattle.memory_map.specs.Image.{Image, IsLoaded}
use Rattle.memory_map.proofs.Mappings.{mapped_inside}
use Rattle.memory_map.proofs.RunBytes.{all_in_range}
use Rattle.address_regions.specs.declared.region.Region.{Region}
use Rattle.domain_laws.specs.Laws.{Values}
use Rattle.flow_log.specs.declared.cause.Cause.{Cause}
use Rattle.flow_log.specs.declared.cause.Cause.TheVariants as causes
use Rattle.flow_log.specs.Ordered.{ordered_set}
use Rattle.abstract_state.specs.declared.stored.Stored.TheVariants.{Done, Faults, Stopped}
use Rattle.abstract_state.specs.Accessing.{StoredPath, cause_outside, is_in_fault_zone, lies_in_extent, put_in, region_put, stored_among, stored_at, touches_fault_zone, with_region_parts, with_spans, with_word}
use Rattle.abstract_state.specs.Expanding.{Expanded, Path, Written, cause_cmp, joined, with_writes}
use Rattle.abstract_state.specs.State.{Known}

module _ {D : Type 0} (d : Values D) (image : Image) where
  abbrev by_tests : Bool → Bool → Bool → Path D → Path D → StoredPath D
  by_tests zone mapped written p q = cond zone (Faults, p) (cond mapped (cond written (Done, q) (Faults, p)) (Stopped causes.Store, p))

  pub stored-done : (a : ℕ) (w : Width) (v : D) (p q : Path D) → touches_fault_zone a (bytes_of w) ≡ false → maps_all image.segments a (bytes_of w) ≡ true → may_write_each image.segments a (bytes_of w) ≡ true → q ≡ with_word d image a w v p → (Done, q) ≡ stored_at d image a w v p
  stored-done a w v p q zone mapped written e =
      ap (λ x. (Done, x)) e
      ∙ sym (ap (λ b. by_tests b (maps_all image.segments a (bytes_of w)) (may_write_each image.segments a (bytes_of w)) p (with_word d image a w v p)) zone
      ∙ ap (λ b. by_tests false b (may_write_each image.segments a (bytes_of w)) p (with_word d image a w v p)) mapped
      ∙ ap (λ b. by_tests false true b p (with_word d image a w v p)) written)

  -- ---- somewhere among some addresses

  abbrev has_some : List Span → Bool
  has_some [] = false
  has_some (r ∷ rs) = true

  join-some : (a : ℕ) (rs : List Span) → has_some (join_span a 1 rs) ≡ true
  join-some a [] = refl
  join-some a (r ∷ rs) = elim (r.low == a + 1) as (λ b. has_some (cond b (record { low = a; size = 1 + r.size } ∷ rs) (record { low = a; size = 1 } ∷ r ∷ rs)) ≡ true) [ true ↦ refl | false ↦ refl ]

  any-runs : (test : ℕ → Bool) (a n : ℕ) → list_any test (range_with_len a n) ≡ has_some (runs_of test a n)
  unfolding runs_of
  any-runs test a zero = refl
  any-runs test a (suc n) =
      elim (test a) as (λ b. (b || list_any test (range_with_len (a + 1) n)) ≡ has_some (cond b (join_span a 1 (runs_of test (a + 1) n)) (runs_of test (a + 1) n))) [
        | true ↦ sym (join-some a (runs_of test (a + 1) n))
        | false ↦ any-runs test (a + 1) n
      ]

  empty-none : (rs : List Span) → (length rs == 0) ≡ true → has_some rs ≡ false
  empty-none [] e = refl
  empty-none (r ∷ rs) e = absurd (false≢true (sym (long (length rs)) ∙ e))
    where
      long : (n : ℕ) → (suc n == 0) ≡ false
      long n = grind (arith, common_steps)

  filled-some : (rs : List Span) → (length rs == 0) ≡ false → has_some rs ≡ true
  filled-some [] e = absurd (false≢true (sym e))
  filled-some (r ∷ rs) e = refl

  pub among-none : (a size : ℕ) (p : Path D) (runs : List Span) → is_in_fault_zone a size ≡ false → maps_all image.segments a size ≡ true → runs ≡ runs_of (may_write image.segments) a size → (length runs == 0) ≡ true → (Faults, p) ≡ stored_among d image a size p
  among-none a size p runs zone mapped is none =
      let any : may_write_any image.segments a size ≡ false = any-runs (may_write image.segments) a size ∙ ap has_some (sym is) ∙ empty-none runs none in
      let q = with_spans (runs_of (may_write image.segments) a size) p in
      sym (ap (λ b. by_tests b (maps_all image.segments a size) (may_write_any image.segments a size) p q) zone
      ∙ ap (λ b. by_tests false b (may_write_any image.segments a size) p q) mapped
      ∙ ap (λ b. by_tests false true b p q) any)

  pub among-done : (a size : ℕ) (p q : Path D) (runs : List Span) → is_in_fault_zone a size ≡ false → maps_all image.segments a size ≡ true → runs ≡ runs_of (may_write image.segments) a size → (length runs == 0) ≡ false → q ≡ with_spans runs p → (Done, q) ≡ stored_among d image a size p
  among-done a size p q runs zone mapped is some e =
      let any : may_write_any image.segments a size ≡ true = any-runs (may_write image.segments) a size ∙ ap has_some (sym is) ∙ filled-some runs some in
      let r = with_spans (runs_of (may_write image.segments) a size) p in
      ap (λ x. (Done, x)) (e ∙ ap (λ rs. with_spans rs p) is)
      ∙ sym (ap (λ b. by_tests b (maps_all image.segments a size) (may_write_any image.segments a size) p r) zone
      ∙ ap (λ b. by_tests false b (may_write_any image.segments a size) p r) mapped
      ∙ ap (λ b. by_tests false true b p r) any)

-- mapped bytes end where a program's memory does
pub mapped-below : (image : Image) (a n : ℕ) → IsLoaded image → a < 2 ^ 32 → maps_all image.segments a n ≡ true → a + n < 2 ^ 32
mapped-below image a zero loaded low e = omega arith
mapped-below image a (suc n) loaded low e =
    let last : is_some (byte_at image.segments (a + n)) ≡ true = all_in_range (λ b. is_some (byte_at image.segments b)) a (suc n) (a + n) e (omega arith) (omega arith) in
    let inside = (mapped_inside image.segments (a + n) last loaded.map.inside).1 in
    omega (arith, inside)

-- ---- in a region

module _ {D : Type 0} (d : Values D) where
  pub in-done : (r : Region) (low high : ℤ) (w : Width) (v : D) (p q : Path D) → lies_in_extent r low (high +ℤ pos (bytes_of w)) ≡ true → q ≡ with_region_parts r low (high +ℤ pos (bytes_of w)) (region_put d r low high w v p.state.parts) p → (Done, q) ≡ put_in d r low high w v p
  in-done r low high w v p q e f =
      let done = with_region_parts r low (high +ℤ pos (bytes_of w)) (region_put d r low high w v p.state.parts) p in
      ap (λ x. (Done, x)) f ∙ sym (ap (λ b. (let o : StoredPath D = cond b (Done, done) (Stopped (cause_outside r), p) in o)) e)

  pub in-stopped : (r : Region) (low high : ℤ) (w : Width) (v : D) (p : Path D) (cause : Cause) → lies_in_extent r low (high +ℤ pos (bytes_of w)) ≡ false → cause ≡ cause_outside r → (Stopped cause, p) ≡ put_in d r low high w v p
  in-stopped r low high w v p cause e f =
      let done = with_region_parts r low (high +ℤ pos (bytes_of w)) (region_put d r low high w v p.state.parts) p in
      ap (λ x. (Stopped x, p)) f ∙ sym (ap (λ b. (let o : StoredPath D = cond b (Done, done) (Stopped (cause_outside r), p) in o)) e)

-- ---- two endings together

pub joined-by : {D : Type 0} (x y : Expanded D) (next : List (ℕ × Known D)) (cs : List Cause) (ws : List Written) → next ≡ x.next ++ y.next → cs ≡ ordered_set cause_cmp (x.causes ++ y.causes) → ws ≡ with_writes y.writes x.writes → (let r : Expanded D = record { next = next; causes = cs; writes = ws } in r) ≡ joined x y
joined-by {D} x y next cs ws e f g =
    ap (λ n. (let r : Expanded D = record { next = n; causes = cs; writes = ws } in r)) e
    ∙ ap (λ c. (let r : Expanded D = record { next = x.next ++ y.next; causes = c; writes = ws } in r)) f
    ∙ ap (λ w. (let r : Expanded D = record { next = x.next ++ y.next; causes = ordered_set cause_cmp (x.causes ++ y.causes); writes = w } in r)) g

-- ---- numbers in a row

pub range-more : (a n : ℕ) → range_with_len a (suc n) ≡ range_with_len a n ++ (a + n) ∷ []
range-more a zero = ap (λ x. x ∷ []) (omega arith)
range-more a (suc n) = ap (λ xs. a ∷ xs) (range-more (a + 1) n ∙ ap (λ x. range_with_len (a + 1) n ++ x ∷ []) (omega arith))

pub range-next : (n : ℕ) → range_with_len 0 (n + 1) ≡ range_with_len 0 n ++ n ∷ []
range-next n =
    let more : n + 1 ≡ suc n = omega arith in
    let last : 0 + n ≡ n = omega arith in
    ap (range_with_len 0) more ∙ range-more 0 n ∙ ap (λ x. range_with_len 0 n ++ x ∷ []) last
