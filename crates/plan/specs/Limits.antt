-- The limits of a plan. Numbers count from 0, so that each limit on how many is also the least number that is refused.
use Rattle.std.specs.Prelude.{ℕ}

-- how many segments a plan has when it is full
abbrev pub most_segments : ℕ
most_segments = 4

-- how many meters a segment has at most
abbrev pub most_meters : ℕ
most_meters = 64

-- how many network users there are at most
abbrev pub most_users : ℕ
most_users = 16

-- how many stations there are at most
abbrev pub most_stations : ℕ
most_stations = 16

-- the greatest amount of one meter in one hour, in kWh
abbrev pub greatest_amount : ℕ
greatest_amount = 20000

-- the segment whose meters carry a peak over from earlier months
abbrev pub amr : ℕ
amr = 0
