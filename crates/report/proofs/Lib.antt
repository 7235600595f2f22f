mod ByteLines
