mod KindBytes
