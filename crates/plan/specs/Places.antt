-- The place of a meter: its segment, and its number there.
use Rattle.std.specs.Prelude.{ℕ, ◌+◌, ◌*◌, Bool, ◌&&◌, ◌||◌, ◌==◌, nat_lt}
use Rattle.plan.specs.Limits.{most_meters}

-- places ascend by segment, then by number
abbrev pub place_precedes : ℕ × ℕ → ℕ × ℕ → Bool
place_precedes a b = nat_lt a.0 b.0 || (a.0 == b.0 && nat_lt a.1 b.1)

-- are both the same meter's
abbrev pub is_place : ℕ × ℕ → ℕ × ℕ → Bool
is_place a b = a.0 == b.0 && a.1 == b.1

-- how many meters have a place before this one, where each segment has all its numbers
abbrev pub rank : ℕ × ℕ → ℕ
rank place = place.0 * most_meters + place.1
