-- Valve records in bytes: which bytes a record depends on, and what writing one changes.
use Rattle.std.proofs.Common.{◌≡◌, ℕ, ◌+◌, ◌*◌, ◌/◌, ◌%◌, ◌<◌, ◌≤◌, ◌≢◌, List, [], ◌∷◌, ◌++◌, length, get_or, take, drop, set, suc, zero, Some, None, Option, MatchOption, Ok, Err, Result, below_more, sym, refl, ap, ◌∙◌, subst, inl, inr, arith, length-set}
use mathlib.Core.Logic.{∥∥₁_elim}
use Rattle.std.proofs.Math.Bridge.{le_prop}
use Rattle.refusals.specs.declared.Refusal.{Refusal}
use Rattle.states.proofs.Records.{same_valve}
use Rattle.states.specs.declared.valve.ValveRecord.{ValveRecord}
use Rattle.std.proofs.lemmas.List.FromFn.{length-map-range_with_len, get_or-map-range_with_len, map-range_with_len_more, fill_by_all}
use Rattle.std.proofs.lemmas.List.Edits.{paste_more, paste_none}
use Rattle.std.proofs.lemmas.List.{get_or-drop, get_or-set_same, get_or-set_other, get_or-take, length-take-le}
use Rattle.std.proofs.Math.Seq.{paste}
use Rattle.std.specs.List.{AllWithin, HoldsAt}
use Rattle.std.specs.Simd.{first_chunks}
use Rattle.states.specs.Valve.{Decodes, encoded}
use Rattle.tapes.specs.Valves.{Encodes, LawfulPumps, Unreadable, bits_at, pump_at, valve_at, valves, written}

pub length-valves : (n : ℕ) (bytes : List ℕ) → length (valves n bytes) ≡ n
length-valves n bytes = length-map-range_with_len (valve_at bytes) 0 n

-- the first n records depend on the first 3 * n bytes alone
module _ (n : ℕ) (xs ys : List ℕ) (agree : (j : ℕ) → j < 3 * n → get_or xs j 0 ≡ get_or ys j 0) where
  valve_front : (k : ℕ) → k < n → valve_at xs k ≡ valve_at ys k
  valve_front k below =
      let high = agree (3 * k) (omega arith) in
      let low = agree (3 * k + 1) (omega arith) in
      let pump = agree (3 * k + 2) (omega arith) in
      same_valve (valve_at xs k) (valve_at ys k) (cc) (cc)

  pub valves_front : valves n xs ≡ valves n ys
  valves_front =
      fill_by_all (valve_at ys) (valves n xs) n (valve_at xs 0) (length-valves n xs)
      (λ k below. get_or-map-range_with_len (valve_at xs) 0 n k k (valve_at xs 0) below (omega arith) ∙ valve_front k below)

pub encodes_valves : (bytes : List ℕ) → length bytes % 3 ≡ 0 → LawfulPumps (length bytes / 3) bytes → Encodes bytes (valves (length bytes / 3) bytes)
encodes_valves bytes whole lawful = record { whole = omega (arith, length-valves n bytes); each = each }
  where
    n : ℕ
    n = length bytes / 3

    each : (k : ℕ) (d : ValveRecord) → k < length (valves n bytes) → ((get_or (valves n bytes) k d).bits ≡ bits_at bytes k) × ((get_or (valves n bytes) k d).pump ≡ pump_at bytes k)
    each k d below =
        let there : k < n = omega (arith, length-valves n bytes) in
        let is = get_or-map-range_with_len (valve_at bytes) 0 n k k d there (omega arith) in
        (ap (λ (w : ValveRecord). w.bits) is, ap (λ (w : ValveRecord). w.pump) is ∙ omega (arith, lawful k there))

-- bytes that encode records encode no others, and are not refused
module _ (bytes : List ℕ) (records : List ValveRecord) (held : Encodes bytes records) where
  pub held_only : valves (length bytes / 3) bytes ≡ records
  held_only = sym (fill_by_all (valve_at bytes) records (length bytes / 3) (valve_at bytes 0) (omega (arith, held.whole)) each)
    where
      each : (k : ℕ) → k < length bytes / 3 → get_or records k (valve_at bytes 0) ≡ valve_at bytes k
      each k below =
          let v = get_or records k (valve_at bytes 0) in
          let says = held.each k (valve_at bytes 0) (omega (arith, held.whole)) in
          same_valve v (valve_at bytes k) says.0 (omega (arith, says.1, v.lawful))

  pub held_readable : (e : Refusal) → Unreadable bytes e → ⊥
  held_readable e (inl cut) = cut.partial (omega (arith, held.whole))
  held_readable e (inr pump) =
      let v = get_or records e.place (valve_at bytes 0) in
      let says = held.each e.place (valve_at bytes 0) (omega (arith, held.whole, pump.within)) in
      omega (arith, says.1, v.lawful, pump.above)

-- the bytes of the first n records encode those records
module _ (n : ℕ) (bytes : List ℕ) (within : n ≤ length bytes / 3) where
  records_taken : length (take (3 * n) bytes) / 3 ≡ n
  records_taken = omega (arith, length-take-le (3 * n) bytes (omega arith))

  pub valves_taken : valves (length (take (3 * n) bytes) / 3) (take (3 * n) bytes) ≡ valves n bytes
  valves_taken =
      ap (λ m. valves m (take (3 * n) bytes)) records_taken
      ∙ valves_front n (take (3 * n) bytes) bytes (λ j below. get_or-take (3 * n) bytes j 0 below)

  pub encodes_taken : ∥ LawfulPumps n bytes ∥₁ → Encodes (take (3 * n) bytes) (valves n bytes)
  encodes_taken pumps =
      let taken = take (3 * n) bytes in
      let whole : length taken % 3 ≡ 0 = omega (arith, length-take-le (3 * n) bytes (omega arith)) in
      subst (Encodes taken) valves_taken (encodes_valves taken whole lawful)
    where
      lawful : LawfulPumps (length (take (3 * n) bytes) / 3) (take (3 * n) bytes)
      lawful k below =
          let there : k < n = omega (arith, records_taken) in
          let front : 3 * k + 2 < 3 * n = omega arith in
          rw get_or-take (∥∥₁_elim pumps le_prop (λ p. p k there))

pub length-written : (bytes : List ℕ) (n : ℕ) (v : ValveRecord) → length (written bytes n v) ≡ length bytes
length-written bytes n v = simp length-set

-- writing the record numbered n after the first n
module _ (bytes : List ℕ) (n : ℕ) (v : ValveRecord) (room : n < length bytes / 3) where
  written_before : (j : ℕ) → j < 3 * n → get_or (written bytes n v) j 0 ≡ get_or bytes j 0
  written_before j below =
      let high : j ≢ 3 * n = omega arith in
      let low : j ≢ 3 * n + 1 = omega arith in
      let pump : j ≢ 3 * n + 2 = omega arith in
      rw (get_or-set_other, get_or-set_other, get_or-set_other)

  written_high : get_or (written bytes n v) (3 * n) 0 ≡ v.bits / 256
  written_high =
      let low : 3 * n ≢ 3 * n + 1 = omega arith in
      let pump : 3 * n ≢ 3 * n + 2 = omega arith in
      let there : 3 * n < length bytes = omega arith in
      rw (get_or-set_other, get_or-set_other, get_or-set_same)

  written_low : get_or (written bytes n v) (3 * n + 1) 0 ≡ v.bits % 256
  written_low =
      let pump : 3 * n + 1 ≢ 3 * n + 2 = omega arith in
      let there : 3 * n + 1 < length (set bytes (3 * n) (v.bits / 256)) = simp length-set (omega arith) in
      rw (get_or-set_other, get_or-set_same)

  written_pump : get_or (written bytes n v) (3 * n + 2) 0 ≡ v.pump
  written_pump =
      let there : 3 * n + 2 < length (set (set bytes (3 * n) (v.bits / 256)) (3 * n + 1) (v.bits % 256)) = simp length-set (omega arith) in
      rw get_or-set_same

  written_there : valve_at (written bytes n v) n ≡ v
  written_there =
      same_valve (valve_at (written bytes n v) n) v
      (omega (arith, written_high, written_low))
      (omega (arith, written_pump, v.lawful))

  pub pumps_written : LawfulPumps n bytes → LawfulPumps (n + 1) (written bytes n v)
  pumps_written pumps =
      below_more _ _
      (λ k below. rw (written_before (3 * k + 2) (omega arith)) (pumps k below))
      (rw written_pump v.lawful)

  pub valves_written : valves (n + 1) (written bytes n v) ≡ valves n bytes ++ (v ∷ [])
  valves_written =
      let more = map-range_with_len_more (valve_at (written bytes n v)) 0 n n (omega arith) in
      let front = valves_front n (written bytes n v) bytes written_before in
      let there = written_there in
      cc

-- the record's three bytes put in place of those of the record numbered n
pub pasted : (bytes : List ℕ) (n : ℕ) (v : ValveRecord) → n < length bytes / 3 → paste bytes (3 * n) (encoded v) 3 ≡ written bytes n v
pasted bytes n v room =
    let start = 3 * n in
    let three = encoded v in
    let none = paste_none bytes start three in
    let one = paste_more bytes start three 0 0 (omega (arith, room)) (omega arith) in
    let two = paste_more bytes start three 1 0 (omega (arith, room)) (omega arith) in
    let all = paste_more bytes start three 2 0 (omega (arith, room)) (omega arith) in
    let first : start + 0 ≡ start = omega arith in
    cc

-- byte j of the record numbered k, in the list of the records' bytes
pub chunk_byte : (n k j : ℕ) (bytes d : List ℕ) → k < n → j < 3 → get_or (get_or (first_chunks 3 n bytes) k d) j 0 ≡ get_or bytes (3 * k + j) 0
chunk_byte zero k j bytes d below small = absurd (omega arith)
chunk_byte (suc n) zero j bytes d below small = get_or-take 3 bytes j 0 small ∙ ap (λ i. get_or bytes i 0) (omega arith)
chunk_byte (suc n) (suc k) j bytes d below small =
    chunk_byte n k j (drop 3 bytes) d (omega arith) small ∙ get_or-drop 3 bytes (3 * k + j) 0 ∙ ap (λ i. get_or bytes i 0) (omega arith)

length-first_chunks : (n : ℕ) (bytes : List ℕ) → length (first_chunks 3 n bytes) ≡ n
length-first_chunks zero bytes = refl
length-first_chunks (suc n) bytes = omega (arith, length-first_chunks n (drop 3 bytes))

-- The first pump byte above 1 of the records' bytes, as a search of their list finds it.
module _ (bytes : List ℕ) where
  abbrev n : ℕ
  n = length bytes / 3

  abbrev records : List (List ℕ)
  records = first_chunks 3 n bytes

  abbrev Found : (r : Option ℕ) → Type 0
  Found r = MatchOption r (AllWithin (λ b. get_or b 2 0 ≤ 1) records 0 (length records)) (λ k. (k < length records) × HoldsAt (λ b. 1 < get_or b 2 0) records k × AllWithin (λ b. get_or b 2 0 ≤ 1) records 0 k)

  pump_is : (k : ℕ) → k < n → get_or (get_or records k []) 2 0 ≡ pump_at bytes k
  pump_is k below = chunk_byte n k 2 bytes [] below (omega arith)

  pub first_pump : (r : Option ℕ) → Found r → MatchOption r (LawfulPumps n bytes) (λ k. (k < n) × (1 < pump_at bytes k) × LawfulPumps k bytes)
  first_pump None all = λ k below. omega (arith, pump_is k below, all k [] (omega arith) (omega (arith, length-first_chunks n bytes)))
  first_pump (Some k) (within, above, before) =
      let below : k < n = omega (arith, length-first_chunks n bytes) in
      (below, omega (arith, pump_is k below, above []), λ j first. omega (arith, pump_is j (omega arith), before j [] (omega arith) first))

-- The record that a valve tape has at a place is the one that its three bytes there encode.
module _ (bytes : List ℕ) (k : ℕ) (three : List ℕ) (below : k < length bytes / 3) (is : three ≡ get_or (first_chunks 3 (length bytes / 3) bytes) k three) where
  byte_is : (j : ℕ) → j < 3 → get_or three j 0 ≡ get_or bytes (3 * k + j) 0
  byte_is j small = ap (λ b. get_or b j 0) is ∙ chunk_byte (length bytes / 3) k j bytes three below small

  same : (v : ValveRecord) → encoded v ≡ three → v ≡ valve_at bytes k
  same v e =
      let first : get_or bytes (3 * k + 0) 0 ≡ get_or bytes (3 * k) 0 = ap (λ i. get_or bytes i 0) (omega arith) in
      let high : v.bits / 256 ≡ get_or bytes (3 * k) 0 = ap (λ b. get_or b 0 0) e ∙ byte_is 0 (omega arith) ∙ first in
      let low : v.bits % 256 ≡ get_or bytes (3 * k + 1) 0 = ap (λ b. get_or b 1 0) e ∙ byte_is 1 (omega arith) in
      let pump : v.pump ≡ get_or bytes (3 * k + 2) 0 = ap (λ b. get_or b 2 0) e ∙ byte_is 2 (omega arith) in
      same_valve v (valve_at bytes k) (omega (arith, high, low)) (omega (arith, pump, v.lawful))

  pub decoded : LawfulPumps (length bytes / 3) bytes → (r : Result ValveRecord Refusal) → Decodes three r → r ≡ Ok (valve_at bytes k)
  decoded lawful (Ok v) e = ap Ok (same v e)
  decoded lawful (Err e) (above, by) = absurd (omega (arith, above, byte_is 2 (omega arith), lawful k below))
