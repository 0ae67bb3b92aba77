-- The bytes of a reply's head (RFC 9112, section 4): a line for its status, one for each field, and an empty one.
use Rattle.std.specs.Prelude.{ℕ, ◌+◌, ◌-◌, ◌==◌, List, [], ◌∷◌, ◌++◌, if◌then◌else◌, codes}
use Rattle.std.specs.Fmt.{decimal}
use Rattle.range_server.specs.declared.reply.Reply.{Reply}

-- what ends a line
abbrev pub line_end : List ℕ
line_end = 13 ∷ 10 ∷ []

abbrev pub line : List ℕ → List ℕ
line text = text ++ line_end

abbrev pub status_line : ℕ → List ℕ
status_line status =
    if status == 200 then codes "HTTP/1.1 200 OK" else
    if status == 206 then codes "HTTP/1.1 206 Partial Content" else
    if status == 400 then codes "HTTP/1.1 400 Bad Request" else
    if status == 404 then codes "HTTP/1.1 404 Not Found" else
    if status == 405 then codes "HTTP/1.1 405 Method Not Allowed" else
    if status == 416 then codes "HTTP/1.1 416 Range Not Satisfiable" else
    codes "HTTP/1.1 500 Internal Server Error"

-- the fields of every reply
abbrev pub plain_lines : Reply → List ℕ
plain_lines r =
    line (codes "Content-Length: " ++ decimal r.count)
    ++ line (codes "Content-Type: application/octet-stream")
    ++ line (codes "Accept-Ranges: bytes")
    ++ line (codes "Access-Control-Allow-Origin: *")

-- which bytes come
abbrev pub part_line : Reply → List ℕ
part_line r = line (codes "Content-Range: bytes " ++ decimal r.from ++ codes "-"
    ++ decimal (r.from + r.count - 1) ++ codes "/" ++ decimal r.total)

-- that none can, of how many
abbrev pub length_line : Reply → List ℕ
length_line r = line (codes "Content-Range: bytes */" ++ decimal r.total)

abbrev pub range_lines : Reply → List ℕ
range_lines r = if r.status == 206 then part_line r else (if r.status == 416 then length_line r else [])

abbrev pub allow_lines : Reply → List ℕ
allow_lines r = if r.status == 405 then line (codes "Allow: GET, HEAD") else []

abbrev pub close_lines : Reply → List ℕ
close_lines r = if r.close then line (codes "Connection: close") else []

-- the whole head
unfoldable pub reply_head : Reply → List ℕ
reply_head r = line (status_line r.status) ++ plain_lines r ++ range_lines r ++ allow_lines r ++ close_lines r
    ++ line_end
