-- The columns of the work list, by name. Definitions only.
use Rattle.std.specs.Prelude.{ℕ, ◌*◌}

-- how many there are
abbrev pub columns : ℕ
columns = 21

-- how many rows each of them has, for so many faces
abbrev pub rows_of : ℕ → ℕ
rows_of faces = 6 * faces

-- the tag of the corner that a corner is merged with in the old edition's step 4
abbrev pub tag_column : ℕ
tag_column = 0

-- the row that it is merged with
abbrev pub into_column : ℕ
into_column = 1

-- the numbers of a triangle's three corners in the lists handed in, rows 3t, 3t + 1 and 3t + 2
abbrev pub corner_column : ℕ
corner_column = 2

-- the numbers of their slots
abbrev pub slot_column : ℕ
slot_column = 3

-- its face, whether it is the second of it, the corner it misses
abbrev pub name_column : ℕ
name_column = 4

-- the three numbers of its first-order tangent's s
abbrev pub s_column : ℕ
s_column = 5

-- and of its t
abbrev pub t_column : ℕ
t_column = 6

-- the two magnitudes, and whether its quad is marked
abbrev pub magnitude_column : ℕ
magnitude_column = 7

-- its orientation, at row t
abbrev pub orientation_column : ℕ
orientation_column = 8

-- whether it is `group_with_any`, at row t
abbrev pub any_column : ℕ
any_column = 9

-- the row of the first corner that a corner is welded to
abbrev pub vertex_column : ℕ
vertex_column = 10

-- the side beyond a side: its row and one, or 0 where there is none
abbrev pub link_column : ℕ
link_column = 11

-- the number of the group of a corner, from 1 on, or 0 where it is in none
abbrev pub group_column : ℕ
group_column = 12

-- the members of the groups, as rows of corners: groups in the order they started, members as they were met
abbrev pub met_column : ℕ
met_column = 13

-- the lower of the two vertices in which a side ends; 0 while members are sorted
abbrev pub lower_column : ℕ
lower_column = 15

-- the higher one
abbrev pub higher_column : ℕ
higher_column = 16

-- the rows of the sides, in their order; after step 6 the members of each group, in triangle order
abbrev pub order_column : ℕ
order_column = 17

-- what the sort works in
abbrev pub spare_column : ℕ
spare_column = 18

-- the welding's buckets: the last corner put into each, its row and one, or 0
abbrev pub head_column : ℕ
head_column = 19

-- the corner that was put into the same bucket before it, its row and one, or 0
abbrev pub next_column : ℕ
next_column = 20

-- where each group's members begin among all of them; the welding's buckets are done with by then
abbrev pub begin_column : ℕ
begin_column = 19

-- what a corner brings to a sum of step 7: the x, y and z of its s, projected; what these columns and the next held before is done with by then
abbrev pub sx_column : ℕ
sx_column = 0

abbrev pub sy_column : ℕ
sy_column = 1

abbrev pub sz_column : ℕ
sz_column = 11

-- of its t, projected
abbrev pub tx_column : ℕ
tx_column = 14

abbrev pub ty_column : ℕ
ty_column = 15

abbrev pub tz_column : ℕ
tz_column = 16

-- its angle
abbrev pub opening_column : ℕ
opening_column = 18

-- whether a member, in triangle order, is in the subgroup of the member at hand
abbrev pub joined_column : ℕ
joined_column = 20
