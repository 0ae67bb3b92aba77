-- A reply's head, line by line.
use Rattle.std.proofs.Common.{◌≡◌, ◌++◌, ◌+◌, ◌-◌, ◌^◌, ◌<◌, ◌≤◌, ◌==◌, ℕ, Bool, true, false, List, [], length, length-append, if◌then◌else◌, codes, ap, refl, arith}
use Rattle.std.specs.Fmt.{decimal}
use Rattle.std.proofs.lemmas.Fmt.{length-decimal-le}
use Rattle.range_server.specs.Texts.{allow_lines, close_lines, length_line, line, line_end, part_line, plain_lines, range_lines, reply_head, status_line}
use Rattle.range_server.specs.declared.reply.Reply.{Reply}

pub head_is : (r : Reply) → line (status_line r.status) ++ plain_lines r ++ range_lines r ++ allow_lines r ++ close_lines r ++ line_end ≡ reply_head r
unfolding reply_head
head_is r = refl

-- how long a head is at most
if_short : (b : Bool) (x y : List ℕ) (n : ℕ) → length x ≤ n → length y ≤ n → length (if b then x else y) ≤ n
if_short true x y n hx hy = hx
if_short false x y n hx hy = hy

line_short : (x : List ℕ) (n : ℕ) → length x ≤ n → length (line x) ≤ n + 2
line_short x n h = omega (arith, h, length-append x line_end)

number_short : (n : ℕ) → n < 2 ^ 64 → length (decimal n) ≤ 20
number_short n h = length-decimal-le 20 n (omega arith) (omega (arith, h)) h

status_short : (s : ℕ) → length (status_line s) ≤ 40
status_short s =
    if_short (s == 200) _ _ 40 (omega arith) (if_short (s == 206) _ _ 40 (omega arith) (if_short (s == 400) _ _ 40 (omega arith)
    (if_short (s == 404) _ _ 40 (omega arith) (if_short (s == 405) _ _ 40 (omega arith) (if_short (s == 416) _ _ 40 (omega arith) (omega arith))))))

join_short : (x y : List ℕ) (m n : ℕ) → length x ≤ m → length y ≤ n → length (x ++ y) ≤ m + n
join_short x y m n hx hy = omega (arith, hx, hy, length-append x y)

plain_short : (r : Reply) → r.count < 2 ^ 64 → length (plain_lines r) ≤ 160
plain_short r h =
    let count = line (codes "Content-Length: " ++ decimal r.count) in
    let kind = line (codes "Content-Type: application/octet-stream") in
    let ranges = line (codes "Accept-Ranges: bytes") in
    let origin = line (codes "Access-Control-Allow-Origin: *") in
    let first : length count ≤ 40 = line_short (codes "Content-Length: " ++ decimal r.count) 38 (join_short (codes "Content-Length: ") (decimal r.count) 18 20 (omega arith) (number_short r.count h)) in
    join_short ((count ++ kind) ++ ranges) origin 120 40 (join_short (count ++ kind) ranges 90 30 (join_short count kind 40 50 first (omega arith)) (omega arith)) (omega arith)

part_short : (r : Reply) → r.from + r.count < 2 ^ 64 → r.total < 2 ^ 64 → length (part_line r) ≤ 100
part_short r h t =
    let first = codes "Content-Range: bytes " ++ decimal r.from in
    let last = decimal (r.from + r.count - 1) in
    let total = decimal r.total in
    let a : length first ≤ 45 = join_short (codes "Content-Range: bytes ") (decimal r.from) 25 20 (omega arith) (number_short r.from (omega (arith, h))) in
    let b : length last ≤ 20 = number_short (r.from + r.count - 1) (omega (arith, h)) in
    let whole : length ((((first ++ codes "-") ++ last) ++ codes "/") ++ total) ≤ 87 =
    join_short (((first ++ codes "-") ++ last) ++ codes "/") total 67 20 (join_short ((first ++ codes "-") ++ last) (codes "/") 66 1 (join_short (first ++ codes "-") last 46 20 (join_short first (codes "-") 45 1 a (omega arith)) b) (omega arith)) (number_short r.total t) in
    let all = line_short ((((first ++ codes "-") ++ last) ++ codes "/") ++ total) 87 whole in
    omega (arith, all)

length_short : (r : Reply) → r.total < 2 ^ 64 → length (length_line r) ≤ 100
length_short r t =
    let all = line_short (codes "Content-Range: bytes */" ++ decimal r.total) 50 (join_short (codes "Content-Range: bytes */") (decimal r.total) 30 20 (omega arith) (number_short r.total t)) in
    omega (arith, all)

pub head_short : (r : Reply) → r.from + r.count < 2 ^ 64 → r.total < 2 ^ 64 → length (reply_head r) ≤ 512
head_short r h t =
    let first = line (status_line r.status) in
    let plain = plain_lines r in
    let range = range_lines r in
    let allow = allow_lines r in
    let close = close_lines r in
    let a : length first ≤ 42 = line_short (status_line r.status) 40 (status_short r.status) in
    let b : length plain ≤ 160 = plain_short r (omega (arith, h)) in
    let c : length range ≤ 100 = if_short (r.status == 206) (part_line r) _ 100 (part_short r h t) (if_short (r.status == 416) (length_line r) [] 100 (length_short r t) (omega arith)) in
    let d : length allow ≤ 50 = if_short (r.status == 405) (line (codes "Allow: GET, HEAD")) [] 50 (omega arith) (omega arith) in
    let e : length close ≤ 50 = if_short r.close (line (codes "Connection: close")) [] 50 (omega arith) (omega arith) in
    let whole : length (((((first ++ plain) ++ range) ++ allow) ++ close) ++ line_end) ≤ 404 =
    join_short ((((first ++ plain) ++ range) ++ allow) ++ close) line_end 402 2 (join_short (((first ++ plain) ++ range) ++ allow) close 352 50 (join_short ((first ++ plain) ++ range) allow 302 50 (join_short (first ++ plain) range 202 100 (join_short first plain 42 160 a b) c) d) e) (omega arith) in
    omega (arith, whole, ap length (head_is r))
