-- Going through the rows of the second form, one after another. Assumes nothing.
use Rattle.std.proofs.Common.{◌≡◌, ℕ, ◌+◌, ◌<◌, ◌≤◌, List, length, get_or, set, Err, None, Option, sym, ap, ◌∙◌, subst, ⊎_elim, arith}
use Rattle.std.proofs.lemmas.List.{get_or-set_same, get_or-set_other}
use Rattle.std.proofs.lemmas.Bool.{cases_lt}
use Rattle.kinds.specs.Domain.{Domain}
use Rattle.rows.specs.Shapes.{Shaped}
use Rattle.rows.specs.Tables.{rows_of}
use Rattle.rows.specs.declared.row.Row.{Row}
use Rattle.rows.proofs.Clearing.{shaped_few, row_at}
use Rattle.subsumption.specs.Given.{row_gives, gives, Marked, Read, Met, shut, room, Lacks}
use Rattle.subsumption.specs.Matches.{match_of, Reaches, Step, Matched, Stops, at_first, at_row}
use Rattle.subsumption.specs.Outcome.{matches_of, Decided}
use Rattle.subsumption.specs.declared.gap.Match.{Match}
use Rattle.subsumption.specs.declared.gap.Match.TheVariants.{At}
use Rattle.subsumption.specs.declared.gap.Need.{Need}
use Rattle.subsumption.specs.declared.gap.Short.{Short}

module _ {R V : Type 0} (k : Domain R V) where
  -- row 0 allows fillers, so that a row that is met by it is met in its atoms and readings
  topmost_met : (p q : Row R) (w : Match) → p.lower ≡ 0 → p.upper ≡ None → Met k (row_gives k p) q (At 0) w → Marked k (row_gives k p) q × Read k (row_gives k p) q
  topmost_met p q w lo up (shut counted closed) =
      absurd (let U : Option ℕ → Type 0 = λ o. 1 ≤ 1 → Rattle.rows.specs.Numbers.Under 1 o in omega (arith, closed 1 (omega arith, subst U (sym up) (λ _. tt) (omega arith))))
  topmost_met p q w lo up (room counted more marked read) = (marked, read)

  module _ (xs ys : List (Row R)) (ms : List Match) (e : Row R) where
    abbrev P : ℕ → Row R
    P = rows_of e xs

    abbrev Q : ℕ → Row R
    Q = rows_of e ys

    -- row 0
    pub matched_first : (w : Match) → Shaped xs → 0 < length ms → Met k (row_gives k (P 0)) (Q 0) (At 0) w → Matched k P (length xs) Q (matches_of (set ms 0 (At 0))) 1
    matched_first w shaped room_for met =
        let both = topmost_met (P 0) (Q 0) w (shaped.1 e).bare.0 (shaped.1 e).bare.1 met in
        record {
          first = get_or-set_same ms 0 (At 0) (At 0) room_for;
          marked = both.0;
          read = both.1;
          steps = λ i z l. absurd (omega arith);
        }

    pub stopped_first : (need : Need) → 0 < length ms → Lacks k (row_gives k (P 0)) (Q 0) need → Stops k P (length xs) Q (matches_of (set ms 0 (At 0))) 0 (matches_of (set ms 0 (At 0)) 0) need
    stopped_first need room_for lacks =
        subst (λ w. Stops k P (length xs) Q (matches_of (set ms 0 (At 0))) 0 w need) (sym (get_or-set_same ms 0 (At 0) (At 0) room_for)) (at_first lacks)

    -- a later row, whose match is set to w
    -- as the loop comes to it, by the row that it reads at its number
    module _ (c : ℕ) (w : Match) (shaped : Shaped ys) (z : 0 < c) (rows : List (Row R)) (is : rows ≡ ys) (there : c < length rows) (room : length ms ≡ 128)
        (row : Row R) (p : ℕ) (p_is : p ≡ (get_or rows c row).parent) (before : Matched k P (length xs) Q (matches_of ms) c) where
      l : c < length ys
      l = omega (arith, ap length is)

      fits : c < length ms
      fits = omega (arith, l, shaped_few ys shaped)

      abbrev up : Match
      up = matches_of ms p

      up_is : up ≡ matches_of ms (Q c).parent
      up_is = ap (matches_of ms) (p_is ∙ ap (λ r. r.parent) (row_at rows ys c row e is l))

      parent_is : (Q c).parent < c
      parent_is = (shaped.1 e).parents c z l

      same : (i : ℕ) → i < c → matches_of (set ms c w) i ≡ matches_of ms i
      same i u = get_or-set_other ms c i w (At 0) (λ q. omega arith)

      here_is : matches_of (set ms c w) c ≡ w
      here_is = get_or-set_same ms c w (At 0) fits

      up_now : up ≡ matches_of (set ms c w) (Q c).parent
      up_now = up_is ∙ sym (same (Q c).parent parent_is)

      moved : Matched k P (length xs) Q (matches_of (set ms c w)) c
      moved = record {
        first = same 0 z ∙ before.first;
        marked = before.marked;
        read = before.read;
        steps = λ i zi u.
            subst (λ a. Step k P (length xs) (Q i) a (matches_of (set ms c w) i)) (sym (same (Q i).parent (let q = (shaped.1 e).parents i zi (omega (arith, l)) in omega arith)))
            (subst (λ b. Step k P (length xs) (Q i) (matches_of ms (Q i).parent) b) (sym (same i u)) (before.steps i zi u));
      }

      pub matched_more : Step k P (length xs) (Q c) up w → Matched k P (length xs) Q (matches_of (set ms c w)) (c + 1)
      matched_more step = record {
        first = moved.first;
        marked = moved.marked;
        read = moved.read;
        steps = λ i zi u. ⊎_elim (λ h. moved.steps i zi h) (λ h. let q : c ≡ i = omega arith in subst (λ j. Step k P (length xs) (Q j) (matches_of (set ms c w) (Q j).parent) (matches_of (set ms c w) j)) q last) (cases_lt i c);
      }
        where
          last : Step k P (length xs) (Q c) (matches_of (set ms c w) (Q c).parent) (matches_of (set ms c w) c)
          last =
              subst (λ a. Step k P (length xs) (Q c) a (matches_of (set ms c w) c)) up_now (subst (λ b. Step k P (length xs) (Q c) up b) (sym here_is) step)

      pub stopped_row : (o : Option ℕ) (need : Need) → Reaches k P (length xs) (Q c).role up o → w ≡ match_of o → Lacks k (gives k P o) (Q c) need
          → Stops k P (length xs) Q (matches_of (set ms c w)) c (matches_of (set ms c w) c) need
      stopped_row o need reaches match lacks =
          subst (λ a. Stops k P (length xs) Q (matches_of (set ms c w)) c a need) (sym (here_is ∙ match))
          (at_row z moved (subst (λ a. Reaches k P (length xs) (Q c).role a o) up_now reaches) lacks)

-- what was found out at a row is what is handed out
pub decided_stop : {R V : Type 0} (k : Domain R V) (P : ℕ → Row R) (n : ℕ) (Q : ℕ → Row R) (m : ℕ) (M : ℕ → Match) (short : Short) (c : ℕ) (need : Need)
    → short.row ≡ c → short.need ≡ need → c < m → Stops k P n Q M c (M c) need → Decided k P n Q m M (Err short)
decided_stop k P n Q m M short c need e d l stops = (
  omega (arith, e),
  subst (λ i. Stops k P n Q M i (M i) short.need) (sym e) (subst (λ w. Stops k P n Q M c (M c) w) (sym d) stops),
)
